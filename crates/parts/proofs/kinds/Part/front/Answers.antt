use Rattle.std.proofs.Common.{ℕ, List, ap}
use Rattle.std.proofs.lemmas.List.{drop-take}
use Rattle.parts.specs.Parts.{Piece}
use Rattle.parts.proofs.kinds.Part.front.Goals as goal

pub returns : goal.returns
returns c = let cut : List ℕ → Piece = λ l. record { at = c.args.self.at; bytes = l } in ap cut (drop-take c.args.self.at c.args.n c.args.self.message.now)
