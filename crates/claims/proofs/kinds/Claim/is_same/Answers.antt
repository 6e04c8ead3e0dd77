use Rattle.std.proofs.Common.{◌≡◌}
use Rattle.std.proofs.Math.Bool.{and_assoc}
use Rattle.std.proofs.lemmas.Bool.Decides.{Decides-at}
use Rattle.claims.specs.Same.{same_claim}
use Rattle.claims.proofs.Sameness.{claim_tells, tells_reflexive, tells_symmetric, tells_transitive, meaning_decides}
use Rattle.claims.proofs.kinds.Claim.is_same.Goals as goal

pub returns : goal.returns
returns c =
    let v : c.eq.result ≡ same_claim c.args.self.now c.args.other.now = simp and_assoc (simp and_assoc at c.eq.ensures) in
    record {
      value = v;
      alike = Decides-at _ _ v (claim_tells c.args.self.now c.args.other.now);
      reflexive = tells_reflexive same_claim claim_tells;
      symmetric = tells_symmetric same_claim claim_tells;
      transitive = tells_transitive same_claim claim_tells;
      law = λ p q. Decides-at _ _ v (meaning_decides c.args.self.now c.args.other.now p q);
    }
