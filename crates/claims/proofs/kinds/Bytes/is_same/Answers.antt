use Rattle.std.proofs.lemmas.Bool.Decides.{Decides-at}
use Rattle.claims.proofs.Kept.{same_decides}
use Rattle.claims.proofs.kinds.Bytes.is_same.Goals as goal

pub returns : goal.returns
returns g c = record {
  value = c.eq.ensures;
  law = λ xs ys p q. Decides-at _ _ c.eq.ensures (same_decides g.row.N c.args.self.now c.args.other.now xs ys p q);
}
