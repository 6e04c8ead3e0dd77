use Rattle.std.proofs.Common.{◌≡◌, ℕ, ◌≤◌, true, List, length, Some, None, Option, refl, subst, arith}
use Rattle.std.specs.Option.{option_map}
use Rattle.claims.specs.Bytes.{kept_from}
use Rattle.claims.specs.Digests.{no_digests, with_digest}
use Rattle.claims.specs.Environments.{no_environment, with_class, with_vendor, with_model, with_layer, with_index, with_instance}
use Rattle.claims.specs.Limits.{Holds, some_field, some_value, EnvironmentFits, WithinDigests, ValuesFit, WithinEnvironment, WithinValues}
use Rattle.claims.specs.Values.{no_values, with_version, with_svn, with_digests, with_flags, with_raw}
use Rattle.claims.specs.declared.kinds.Algorithm.{Algorithm}
use Rattle.claims.specs.declared.kinds.Algorithm.TheVariants.{Sha256, Sha384, Sha512}
use Rattle.claims.specs.declared.kinds.Bytes.{Bytes}
use Rattle.claims.specs.declared.kinds.Digests.{Digests}
use Rattle.claims.specs.declared.kinds.Environment.{Environment}
use Rattle.claims.specs.declared.kinds.Flags.{Flags}
use Rattle.claims.specs.declared.kinds.Values.{Values}
use Rattle.claims.proofs.Kept.{kept_holds}

-- what is put in within its limits leaves the whole within them

pub no_environment_lem : EnvironmentFits no_environment
no_environment_lem = record { class = tt; vendor = tt; model = tt; layer = tt; index = tt; instance = tt }

module _ (e : Environment) (w : EnvironmentFits e) where
  pub class_fits : (x : Bytes 32) → Holds 1 x → EnvironmentFits (with_class e x)
  class_fits x k = record { class = k; vendor = w.vendor; model = w.model; layer = w.layer; index = w.index; instance = w.instance }

  pub vendor_fits : (x : Bytes 32) → Holds 1 x → EnvironmentFits (with_vendor e x)
  vendor_fits x k = record { class = w.class; vendor = k; model = w.model; layer = w.layer; index = w.index; instance = w.instance }

  pub model_fits : (x : Bytes 32) → Holds 1 x → EnvironmentFits (with_model e x)
  model_fits x k = record { class = w.class; vendor = w.vendor; model = k; layer = w.layer; index = w.index; instance = w.instance }

  pub layer_fits : (n : ℕ) → n ≤ 65535 → EnvironmentFits (with_layer e n)
  layer_fits n k = record { class = w.class; vendor = w.vendor; model = w.model; layer = k; index = w.index; instance = w.instance }

  pub index_fits : (n : ℕ) → n ≤ 65535 → EnvironmentFits (with_index e n)
  index_fits n k = record { class = w.class; vendor = w.vendor; model = w.model; layer = w.layer; index = k; instance = w.instance }

  pub instance_fits : (x : Bytes 33) → Holds 7 x → EnvironmentFits (with_instance e x)
  instance_fits x k = record { class = w.class; vendor = w.vendor; model = w.model; layer = w.layer; index = w.index; instance = k }

pub no_digests_lem : WithinDigests no_digests
no_digests_lem = record { sha256 = tt; sha384 = tt; sha512 = tt }

mapped_from : {A B : Type 0} (f : A → B) (o : Option A) (y : B) → option_map f o ≡ Some y → (x : A) × (o ≡ Some x) × (f x ≡ y)
mapped_from f None y e = absurd (grind arith)
mapped_from f (Some x) y e = (x, refl, grind arith)

pub digest_fits : (s : Digests) (algorithm : Algorithm) (c : List ℕ) (t : Digests) → WithinDigests s → with_digest s algorithm c ≡ Some t → WithinDigests t
digest_fits s Sha256 c t w e =
    let p = mapped_from _ (kept_from 32 32 c) t e in
    let P : Digests → Type 0 = λ x. WithinDigests x in
    subst P p.2 (record { sha256 = kept_holds 32 32 c p.0 p.1; sha384 = w.sha384; sha512 = w.sha512 })
digest_fits s Sha384 c t w e =
    let p = mapped_from _ (kept_from 48 48 c) t e in
    let P : Digests → Type 0 = λ x. WithinDigests x in
    subst P p.2 (record { sha256 = w.sha256; sha384 = kept_holds 48 48 c p.0 p.1; sha512 = w.sha512 })
digest_fits s Sha512 c t w e =
    let p = mapped_from _ (kept_from 64 64 c) t e in
    let P : Digests → Type 0 = λ x. WithinDigests x in
    subst P p.2 (record { sha256 = w.sha256; sha384 = w.sha384; sha512 = kept_holds 64 64 c p.0 p.1 })

pub no_values_lem : ValuesFit no_values
no_values_lem = record { version = tt; svn = tt; digests = no_digests_lem; flags = refl; raw = tt }

module _ (v : Values) (w : ValuesFit v) where
  pub version_fits : (x : Bytes 32) → Holds 1 x → ValuesFit (with_version v x)
  version_fits x k = record { version = k; svn = w.svn; digests = w.digests; flags = w.flags; raw = w.raw }

  pub svn_fits : (n : ℕ) → n ≤ 4294967295 → ValuesFit (with_svn v n)
  svn_fits n k = record { version = w.version; svn = k; digests = w.digests; flags = w.flags; raw = w.raw }

  pub digests_fit : (x : Digests) → WithinDigests x → ValuesFit (with_digests v x)
  digests_fit x k = record { version = w.version; svn = w.svn; digests = k; flags = w.flags; raw = w.raw }

  pub flags_fit : (x : Flags) → length x.states ≡ 10 → ValuesFit (with_flags v x)
  flags_fit x k = record { version = w.version; svn = w.svn; digests = w.digests; flags = k; raw = w.raw }

  pub raw_fits : (x : Bytes 64) → Holds 1 x → ValuesFit (with_raw v x)
  raw_fits x k = record { version = w.version; svn = w.svn; digests = w.digests; flags = w.flags; raw = k }

-- fields within their limits, one of which is there, and back

pub environment_within : {e : Environment} → some_field e ≡ true → EnvironmentFits e → WithinEnvironment e
environment_within some w = record { some = some; class = w.class; vendor = w.vendor; model = w.model; layer = w.layer; index = w.index; instance = w.instance }

pub within_fits : {e : Environment} → WithinEnvironment e → EnvironmentFits e
within_fits w = record { class = w.class; vendor = w.vendor; model = w.model; layer = w.layer; index = w.index; instance = w.instance }

pub values_within : {v : Values} → some_value v ≡ true → ValuesFit v → WithinValues v
values_within some w = record { some = some; version = w.version; svn = w.svn; digests = w.digests; flags = w.flags; raw = w.raw }
