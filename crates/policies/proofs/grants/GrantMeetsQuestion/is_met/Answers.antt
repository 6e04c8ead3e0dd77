use Rattle.std.proofs.Common.{◌≡◌, sym, ◌∙◌, rules}
use Rattle.std.proofs.lemmas.Bool.Decides.{Decides-at}
use Rattle.policies.specs.Uses.{answer_to}
use Rattle.policies.specs.Grants.{fits}
use Rattle.policies.proofs.Fitting.{fits_decides, fits_wider}
use Rattle.policies.proofs.grants.GrantMeetsQuestion.is_met.Goals as goal

pub returns-then-eq : goal.returns-then-eq
returns-then-eq c =
    let q = c.args.question.now in
    let v : c.starts_with.result ≡ answer_to q (fits c.args.self.now) = search rules in
    record {
      value = v;
      law = Decides-at _ _ v (fits_decides c.args.self.now q.authority q.usage q.class.now);
      shorter = λ g w e. fits_wider g c.args.self.now q.authority q.usage q.class.now w (sym v ∙ e);
    }
