use Rattle.std.proofs.Common.{◌≡◌, List, sym, ◌∙◌, rules}
use Rattle.std.proofs.lemmas.List.{take_all}
use Rattle.std.proofs.lemmas.Bool.Decides.{Decides-at}
use Rattle.policies.specs.Uses.{answer_to}
use Rattle.policies.specs.Grants.{grants_permit}
use Rattle.policies.specs.declared.kinds.Grant.{Grant}
use Rattle.policies.proofs.Fitting.{grants_decides, grants_more, grants_above}
use Rattle.policies.proofs.grants.GrantsPolicy.permits.Goals as goal

pub returns : goal.returns
returns c =
    let gs : List Grant = c.args.self.now.grants.now in
    let q = c.args.question.now in
    let v : c.is_some.result ≡ answer_to q (grants_permit gs) = search (rules, take_all) in
    record {
      value = v;
      law = Decides-at _ _ v (grants_decides gs q.authority q.usage q.class.now);
      more = λ before after e. grants_more gs before after q.authority q.usage q.class.now (sym v ∙ e);
      above = λ low h. v ∙ grants_above gs q.authority q.usage q.class.now low h;
    }
