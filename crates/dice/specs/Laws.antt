use Rattle.std.specs.Prelude.{◌≡◌, ℕ, ◌%◌, ◌<◌, true, List, [], ◌∷◌, ◌++◌, Some, None, Ok, ◌≢◌, slice_index_or}
use Rattle.refusals.specs.Reading.{Outcome, keeps, above}
use Rattle.claims.specs.declared.kinds.Claim.{Claim}
use Rattle.der.specs.Encodes.{Coded, Chain}
use Rattle.parts.specs.Holders.{elements_in}
use Rattle.parts.specs.Parts.{whole_of}
use Rattle.dice.specs.Flags.{flag_of, flags_of}
use Rattle.dice.specs.Fields.{field_at, no_fields}
use Rattle.dice.specs.Layout.{Says, FieldOf, Carries}
use Rattle.dice.specs.Messages.{reading}
use Rattle.dice.specs.declared.kinds.Fields.{Fields}

-- a message is read as a claim exactly when it carries it
pub record ReadAsCarried (m : List ℕ) : Type 0 where
  pub read : (c : Claim) → reading m ≡ Ok (c ∷ []) → Carries c m
  pub written : (c : Claim) → Carries c m → reading m ≡ Ok (c ∷ [])

-- what fields alone say, as the content of DiceTcbInfo
abbrev pub fields_say : List ℕ → Outcome Claim
fields_say bs = keeps (elements_in field_at no_fields (whole_of bs)) (λ f. f.claim)

-- the bytes bs write the claim i, and `longer` is bs with a field of the tag k put in
pub data Extends (k : ℕ) : Claim → List ℕ → List ℕ → Type 0 where
  extends : {r w : Fields} {t : Claim} {xs c f ys : List ℕ} → Chain FieldOf no_fields r xs
      → Coded k c f → above r.last (k % 32) ≡ true → Says r.claim k t c
      → Chain FieldOf (record { last = Some (k % 32); claim = r.claim }) w ys
      → Extends k w.claim (xs ++ ys) (xs ++ (f ++ ys))

-- alike in every field but that of the tag k
pub record Others (k : ℕ) (i j : Claim) : Type 0 where
  pub key : i.key ≡ j.key
  pub instance : i.environment.instance ≡ j.environment.instance
  pub vendor : (k ≢ 0x80) → i.environment.vendor ≡ j.environment.vendor
  pub model : (k ≢ 0x81) → i.environment.model ≡ j.environment.model
  pub version : (k ≢ 0x82) → i.values.version ≡ j.values.version
  pub svn : (k ≢ 0x83) → i.values.svn ≡ j.values.svn
  pub layer : (k ≢ 0x84) → i.environment.layer ≡ j.environment.layer
  pub index : (k ≢ 0x85) → i.environment.index ≡ j.environment.index
  pub digests : (k ≢ 0xA6) → i.values.digests ≡ j.values.digests
  pub flags : (k ≢ 0x87) → i.values.flags ≡ j.values.flags
  pub raw : (k ≢ 0x88) → i.values.raw ≡ j.values.raw
  pub class : (k ≢ 0x89) → i.environment.class ≡ j.environment.class

-- a field that is added is read, and no other field of what is read changes
abbrev pub Adding : Type 0
Adding = (k : ℕ) (i : Claim) (bs longer : List ℕ) → Extends k i bs longer
    → (fields_say bs ≡ Ok i) × ((j : Claim) × (fields_say longer ≡ Ok j) × Others k i j)

-- a flag that is read is true exactly when its bit is as its sense says
abbrev pub FlagsBySense : Type 0
FlagsBySense = (c : List ℕ) (k : ℕ) → k < 4 → slice_index_or (flags_of c).states k None ≡ flag_of c k
