use Rattle.std.proofs.Common.{◌∙◌, ap, rules}
use Rattle.std.proofs.lemmas.Bool.Decides.{nat_tests}
use Rattle.cbor.specs.Items.{shape, bytes, text}
use Rattle.cbor.proofs.items.take_item.Goals as goal

pub returns-in-2-clause-value : goal.returns-in-2-clause-value
returns-in-2-clause-value c = c.take_string.ensures.value bytes (λ p i e. ap shape e.1) ∙ search (rules, nat_tests)

pub returns-in-3-clause-value : goal.returns-in-3-clause-value
returns-in-3-clause-value c = c.take_string-in-3.ensures.value text (λ p i e. ap shape e.1) ∙ search (rules, nat_tests)
