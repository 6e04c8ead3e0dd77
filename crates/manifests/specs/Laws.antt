use Rattle.std.specs.Prelude.{◌≡◌, ℕ, List, IfOk, IfErr, Ok}
use Rattle.std.specs.List.{AllByRecursion}
use Rattle.refusals.specs.Figures.{OfReader}
use Rattle.refusals.specs.Reading.{onward}
use Rattle.manifests.specs.Layout.{ManifestOf}
use Rattle.manifests.specs.Limits.{WithinTriple}
use Rattle.manifests.specs.Triples.{triples_of}
use Rattle.manifests.specs.Walks.{left, further, begun, step_from}
use Rattle.manifests.specs.declared.kinds.Cursor.{Cursor}
use Rattle.manifests.specs.declared.kinds.Triple.{Triple}

-- a message is read as triples exactly when it writes them, under the signer; then each is the signer's and within its limits; and a message that is
-- no manifest is refused for an item or a record
pub record ReadAsWritten (signer : ℕ) (m : List ℕ) : Type 0 where
  pub read : (ts : List Triple) → triples_of signer m ≡ Ok ts → ManifestOf signer ts m
  pub written : (ts : List Triple) → ManifestOf signer ts m → triples_of signer m ≡ Ok ts
  pub signers : IfOk (triples_of signer m) (AllByRecursion (λ t. t.signer ≡ signer))
  pub limits : IfOk (triples_of signer m) (AllByRecursion WithinTriple)
  pub refusals : IfErr (triples_of signer m) OfReader

-- a walk gives the triples of the message, in their order, or its refusal: what is left at the beginning are all of them,
-- and what is left for a cursor is the next triple and what is left for the cursor behind it
pub record WalkedWhole (m : List ℕ) : Type 0 where
  pub begins : (signer : ℕ) → triples_of signer m ≡ onward (begun signer m) (λ c. left c m)
  pub goes_on : (c : Cursor) → left c m ≡ onward (step_from c m) (further m)
