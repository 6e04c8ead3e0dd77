use Rattle.std.specs.Prelude.{◌≡◌, ℕ, ◌+◌, ◌<◌, true, false, List, ◌++◌, length, None, Ok, Err, Option}
use Rattle.refusals.specs.Reading.{above}
use Rattle.refusals.specs.declared.Refusal.{Refusal}
use Rattle.refusals.specs.declared.Refusal.TheVariants.{Malformed, Unknown, OutOfLimits}
use Rattle.claims.specs.declared.kinds.Claim.{Claim}
use Rattle.spdm.specs.Blocks.{Block}
use Rattle.spdm.specs.Layout.{Written, Makes, Row}
use Rattle.spdm.specs.Rows.{reading}
use Rattle.spdm.specs.declared.kinds.Setup.{Setup}

-- m begins with the bytes of the block b
pub record Begins (m : List ℕ) (b : Block) : Type 0 where
  pub bytes : List ℕ
  pub rest : List ℕ
  pub written : Written b bytes
  pub whole : m ≡ bytes ++ rest

-- the block with which m begins is at fault. It stands at the offset `at`, behind a block of the index `last`
pub data Faulty (s : Setup) (last : Option ℕ) (at : ℕ) (m : List ℕ) : Refusal → Type 0 where
  -- no whole block stands there whose sizes agree
  malformed : 0 < length m → ((b : Block) → Begins m b → ⊥) → Faulty s last at m (Malformed at)
  -- a block stands there, and its index does not rise
  falling : {b : Block} → Begins m b → above last b.index ≡ false → Faulty s last at m (Unknown at)
  -- a block stands there, its index rises, and it makes no claim within the limits
  outside : {b : Block} → Begins m b → above last b.index ≡ true → ((c : Claim) → Makes s b c → ⊥) → Faulty s last at m (OutOfLimits at)

-- behind a row of good blocks stands one at fault, at its own offset
pub record Stops (s : Setup) (last : Option ℕ) (at : ℕ) (m : List ℕ) (e : Refusal) : Type 0 where
  pub claims : List Claim
  pub to : Option ℕ
  pub good : List ℕ
  pub rest : List ℕ
  pub whole : m ≡ good ++ rest
  pub row : Row s last claims to good
  pub fault : Faulty s to (at + length good) rest e

-- m is a row of blocks that make the claims cs
abbrev pub RowOf : Setup → List Claim → List ℕ → Type 0
RowOf s cs m = (to : Option ℕ) × Row s None cs to m

-- a message is read as claims exactly when it is the row of their blocks, and refused exactly at the first block at fault
pub record ReadAsRows (s : Setup) (m : List ℕ) : Type 0 where
  pub read : (cs : List Claim) → reading s m ≡ Ok cs → RowOf s cs m
  pub written : (cs : List Claim) → RowOf s cs m → reading s m ≡ Ok cs
  pub stopped : (e : Refusal) → reading s m ≡ Err e → Stops s None 0 m e
  pub refused : (e : Refusal) → Stops s None 0 m e → reading s m ≡ Err e
