use Rattle.std.proofs.Common.{refl}
use Rattle.dice.proofs.examples.worked_examples.Goals as goal

pub returns : goal.returns
returns c = record { number = refl; read = (refl, (refl, tt)) }
