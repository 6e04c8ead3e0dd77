use Rattle.std.proofs.Common.{arith}
use Rattle.lists.proofs.Storing.{held_same}
use Rattle.lists.proofs.distinct.Distinct.elements.Goals as goal

pub returns : goal.returns
returns g c = held_same c.args.self.now.places.now c.args.self.now.count _ (omega arith)
