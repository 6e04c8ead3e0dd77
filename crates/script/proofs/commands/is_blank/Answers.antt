use Rattle.std.proofs.Common.{eqb, ◌∙◌, rules, tests}
use Rattle.std.proofs.lemmas.Iterator.{YieldsList-from_slice}
use Rattle.std.proofs.lemmas.Iterator.Search.{all_from_yields_List}
use Rattle.script.proofs.Skips.{blank_each}
use Rattle.script.proofs.commands.is_blank.Goals as goal

pub returns : goal.returns
returns c =
    all_from_yields_List (λ x. eqb x 32) _ _ _ c.all.ensures.ran (YieldsList-from_slice c.args.line.now cc) (λ x b q k. search (rules, tests))
    ∙ blank_each c.args.line.now
