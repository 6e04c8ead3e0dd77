use Rattle.std.proofs.Common.{rules}
use Rattle.lists.proofs.Firsts.{first_only}
use Rattle.lists.proofs.finding.find.Goals as goal

pub returns-clause-value : goal.returns-clause-value
returns-clause-value g c = first_only (λ x. g.E.Meets.meets x c.args.question.now) c.args.elements.now _ (search rules)
