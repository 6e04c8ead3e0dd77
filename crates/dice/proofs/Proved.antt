use Rattle.dice.specs.Laws.{ReadAsCarried}
use Rattle.dice.proofs.Carried.{read_as_carried}
use Rattle.dice.proofs.Spoken.{info_forth, info_back}
use Rattle.std.proofs.Common.{ℕ, List}

-- the law of boot records, for every message
pub carried : (m : List ℕ) → ReadAsCarried m
carried m = read_as_carried info_forth info_back m
