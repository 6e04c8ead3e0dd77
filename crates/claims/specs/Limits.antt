use Rattle.std.specs.Prelude.{◌≡◌, ℕ, ◌≤◌, Bool, true, ◌&&◌, ◌||◌, List, length, is_some, IfSome, Option, nat_le}
use Rattle.std.specs.List.{list_any}
use Rattle.claims.specs.Bytes.{bounded, content, same}
use Rattle.claims.specs.declared.kinds.Bytes.{Bytes}
use Rattle.claims.specs.declared.kinds.Digests.{Digests}
use Rattle.claims.specs.declared.kinds.Environment.{Environment}
use Rattle.claims.specs.declared.kinds.Values.{Values}
use Rattle.claims.specs.declared.kinds.Claim.{Claim}

-- at least `least` bytes and at most N, in the form in which they are kept
abbrev pub Holds : {N : ℕ} → ℕ → Bytes N → Type 0
Holds {N} least s = (nat_le least (length (content s)) && nat_le (length (content s)) N && same s (bounded N (content s))) ≡ true

-- some field of an environment is there
abbrev pub some_field : Environment → Bool
some_field e = is_some e.class || is_some e.vendor || is_some e.model || is_some e.layer || is_some e.index || is_some e.instance

-- some flag is known
abbrev pub some_flag : List (Option Bool) → Bool
some_flag fs = list_any is_some fs

-- some digest is there
abbrev pub some_digest : Digests → Bool
some_digest d = is_some d.sha256 || is_some d.sha384 || is_some d.sha512

-- some value is there
abbrev pub some_value : Values → Bool
some_value v = is_some v.version || is_some v.svn || some_digest v.digests || some_flag v.flags.states || is_some v.raw

-- a claim has an environment and a value
abbrev pub stands : Claim → Bool
stands c = some_field c.environment && some_value c.values

-- each field of an environment that is there is within its limits
pub record EnvironmentFits (e : Environment) : Type 0 where
  pub class : IfSome e.class (Holds 1)
  pub vendor : IfSome e.vendor (Holds 1)
  pub model : IfSome e.model (Holds 1)
  pub layer : IfSome e.layer (λ n. n ≤ 65535)
  pub index : IfSome e.index (λ n. n ≤ 65535)
  pub instance : IfSome e.instance (Holds 7)

pub record WithinDigests (d : Digests) : Type 0 where
  pub sha256 : IfSome d.sha256 (Holds 32)
  pub sha384 : IfSome d.sha384 (Holds 48)
  pub sha512 : IfSome d.sha512 (Holds 64)

-- each value that is there is within its limits
pub record ValuesFit (v : Values) : Type 0 where
  pub version : IfSome v.version (Holds 1)
  pub svn : IfSome v.svn (λ n. n ≤ 4294967295)
  pub digests : WithinDigests v.digests
  pub flags : length v.flags.states ≡ 10
  pub raw : IfSome v.raw (Holds 1)

-- and one at least is there

pub record WithinEnvironment (e : Environment) : Type 0 where
  pub some : some_field e ≡ true
  pub class : IfSome e.class (Holds 1)
  pub vendor : IfSome e.vendor (Holds 1)
  pub model : IfSome e.model (Holds 1)
  pub layer : IfSome e.layer (λ n. n ≤ 65535)
  pub index : IfSome e.index (λ n. n ≤ 65535)
  pub instance : IfSome e.instance (Holds 7)

pub record WithinValues (v : Values) : Type 0 where
  pub some : some_value v ≡ true
  pub version : IfSome v.version (Holds 1)
  pub svn : IfSome v.svn (λ n. n ≤ 4294967295)
  pub digests : WithinDigests v.digests
  pub flags : length v.flags.states ≡ 10
  pub raw : IfSome v.raw (Holds 1)

-- all limits of a claim hold
pub record Within (c : Claim) : Type 0 where
  pub environment : WithinEnvironment c.environment
  pub key : IfSome c.key (λ n. n ≤ 65535)
  pub values : WithinValues c.values
