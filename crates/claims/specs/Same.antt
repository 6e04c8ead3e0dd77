use Rattle.std.specs.Prelude.{ℕ, Bool, ◌&&◌, List, Option, nat_eq}
use Rattle.std.specs.Bool.{beq}
use Rattle.std.specs.Cmp.Lexicographic.{pointwise}
use Rattle.std.specs.Option.{option_eq, option_map}
use Rattle.claims.specs.Bytes.{content, same}
use Rattle.claims.specs.declared.kinds.Digests.{Digests}
use Rattle.claims.specs.declared.kinds.Environment.{Environment}
use Rattle.claims.specs.declared.kinds.Values.{Values}
use Rattle.claims.specs.declared.kinds.Claim.{Claim}

-- missing in both, or there in both and the same
abbrev pub same_option : {A : Type 0} → (A → A → Bool) → Option A → Option A → Bool
same_option = option_eq

-- flags, number by number: each missing in both, or true in both, or false in both
abbrev pub same_flags : List (Option Bool) → List (Option Bool) → Bool
same_flags = pointwise (same_option beq)

-- digests, algorithm by algorithm
abbrev pub same_digests : Digests → Digests → Bool
same_digests a b = same_option same a.sha256 b.sha256 && same_option same a.sha384 b.sha384 && same_option same a.sha512 b.sha512

abbrev pub same_environment : Environment → Environment → Bool
same_environment a b =
    same_option same a.class b.class
    && same_option same a.vendor b.vendor
    && same_option same a.model b.model
    && same_option nat_eq a.layer b.layer
    && same_option nat_eq a.index b.index
    && same_option same a.instance b.instance

abbrev pub same_values : Values → Values → Bool
same_values a b =
    same_option same a.version b.version
    && same_option nat_eq a.svn b.svn
    && same_digests a.digests b.digests
    && same_flags a.flags.states b.flags.states
    && same_option same a.raw b.raw

-- two claims are the same: each field is missing in both or the same in both
abbrev pub same_claim : Claim → Claim → Bool
same_claim a b = same_environment a.environment b.environment && same_option nat_eq a.key b.key && same_values a.values b.values

-- what a claim says, whatever form it is kept in
pub record Meaning : Type 0 where
  pub class : Option (List ℕ)
  pub vendor : Option (List ℕ)
  pub model : Option (List ℕ)
  pub layer : Option ℕ
  pub index : Option ℕ
  pub instance : Option (List ℕ)
  pub key : Option ℕ
  pub version : Option (List ℕ)
  pub svn : Option ℕ
  pub sha256 : Option (List ℕ)
  pub sha384 : Option (List ℕ)
  pub sha512 : Option (List ℕ)
  pub flags : List (Option Bool)
  pub raw : Option (List ℕ)

abbrev pub meaning : Claim → Meaning
meaning c =
    record {
      class = option_map content c.environment.class;
      vendor = option_map content c.environment.vendor;
      model = option_map content c.environment.model;
      layer = c.environment.layer;
      index = c.environment.index;
      instance = option_map content c.environment.instance;
      key = c.key;
      version = option_map content c.values.version;
      svn = c.values.svn;
      sha256 = option_map content c.values.digests.sha256;
      sha384 = option_map content c.values.digests.sha384;
      sha512 = option_map content c.values.digests.sha512;
      flags = c.values.flags.states;
      raw = option_map content c.values.raw;
    }
