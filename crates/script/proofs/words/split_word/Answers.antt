use Rattle.std.proofs.Common.{◌≡◌, ◌≢◌, rules, tests}
use Rattle.std.proofs.lemmas.Iterator.{IsFirst-from_position, YieldsList-from_slice}
use Rattle.std.proofs.lemmas.List.{take_rest}
use Rattle.script.proofs.Pieces.{one_word, word_ends, spaced_words, solid_words}
use Rattle.script.proofs.words.split_word.Goals as goal

pub returns-in-Some : goal.returns-in-Some
returns-in-Some c =
    let l = c.args.line.now in
    let at = IsFirst-from_position _ _ _ (λ x. x ≡ 32) (λ x. x ≢ 32) c.in-Some.ensures.ran (YieldsList-from_slice l cc) (λ x q k. search (rules, tests)) (λ x q k. search (rules, tests)) in
    record { value = rw take_rest (word_ends l _ at); whole = spaced_words l; solid = solid_words l }

pub returns-in-None : goal.returns-in-None
returns-in-None c =
    let l = c.args.line.now in
    let none = IsFirst-from_position _ _ _ (λ x. x ≡ 32) (λ x. x ≢ 32) c.in-None.ensures.ran (YieldsList-from_slice l cc) (λ x q k. search (rules, tests)) (λ x q k. search (rules, tests)) in
    record { value = one_word l none; whole = spaced_words l; solid = solid_words l }
