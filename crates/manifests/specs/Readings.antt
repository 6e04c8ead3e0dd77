use Rattle.std.specs.Prelude.{ℕ, List, length}
use Rattle.std.specs.Option.{ok_or}
use Rattle.std.specs.List.{slice_get}
use Rattle.refusals.specs.Reading.{Outcome, onward, keeps}
use Rattle.refusals.specs.declared.Refusal.TheVariants.{NoSuchNumber}
use Rattle.manifests.specs.Triples.{triples_of}
use Rattle.manifests.specs.declared.kinds.Triple.{Triple}

-- how many triples a message has
abbrev pub counted : ℕ → List ℕ → Outcome ℕ
counted signer m = keeps (triples_of signer m) length

-- triple n, from 0; beyond them the refusal tells their number
abbrev pub triple_at : ℕ → List ℕ → ℕ → Outcome Triple
triple_at signer m n = onward (triples_of signer m) (λ ts. ok_or (slice_get ts n) (NoSuchNumber (length ts)))
