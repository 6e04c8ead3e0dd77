use Rattle.std.proofs.Common.{◌≡◌, ℕ, ◌+◌, ◌/◌, ◌%◌, ◌^◌, ◌<◌, true, false, eqb, ltb, List, [], ◌∷◌, ◌++◌, length, Some, Ok, codes, decimal, refl, ap, ◌∙◌, arith, rules}
use Rattle.std.specs.List.{flat_map, AllByRecursion}
use Rattle.std.specs.Char.{is_ascii_digit}
use Rattle.std.specs.Str.{all_ascii_digits}
use Rattle.std.proofs.lemmas.Fmt.{digits_decimal, digits_value-decimal, decimal_nonempty}
use Rattle.std.proofs.lemmas.Str.Parse.{IsNumeralModel, numerals_by_fold}
use Rattle.std.proofs.lemmas.Bool.{ne_eqb, and_parts, cond_both}
use Rattle.std.proofs.lemmas.Bool.Decides.{nat_tests}
use Rattle.script.specs.Commands.{Request, read_spdm, read_dice, read_spdm_from, read_dice_from, command_of, line_of, Sayable}
use Rattle.script.specs.Complaints.{Heard, then}
use Rattle.script.specs.Hex.{hex_digit, hex_pair, hex_text}
use Rattle.script.specs.Numbers.{value_after, number_of}
use Rattle.script.specs.Words.{words_of, spaced, Solid}
use Rattle.script.proofs.Digits.{hex_back}

-- a word without a space, alone and before a space
word_alone : (w : List ℕ) → AllByRecursion (λ c. c ≡ 32 → ⊥) w → words_of w ≡ w ∷ []
word_alone [] all = refl
word_alone (c ∷ cs) all = rw (ne_eqb c 32 all.0, word_alone cs all.1)

word_first : (w rest : List ℕ) → AllByRecursion (λ c. c ≡ 32 → ⊥) w → words_of (w ++ (32 ∷ rest)) ≡ w ∷ words_of rest
word_first [] rest all = refl
word_first (c ∷ cs) rest all = rw (ne_eqb c 32 all.0, word_first cs rest all.1)

-- the words of words with spaces between them
words_spaced : (w : List ℕ) (ws : List (List ℕ)) → Solid (w ∷ ws) → words_of (spaced (w ∷ ws)) ≡ w ∷ ws
words_spaced w [] solid = word_alone w solid.0
words_spaced w (v ∷ ws) solid =
    word_first w (spaced (v ∷ ws)) solid.0 ∙ ap (λ (l : List (List ℕ)). w ∷ l) (words_spaced v ws solid.1)

digit_solid : (d : ℕ) → hex_digit d ≡ 32 → ⊥
digit_solid d = cond_both (ltb d 10) (48 + d) (55 + d) (λ c. c ≡ 32 → ⊥) (λ _ e. omega arith) (λ _ e. omega arith)

pairs_solid : (bs : List ℕ) → AllByRecursion (λ c. c ≡ 32 → ⊥) (flat_map hex_pair bs)
pairs_solid [] = tt
pairs_solid (b ∷ bs) = (digit_solid (b / 16), (digit_solid (b % 16), pairs_solid bs))

hex_solid : (bs : List ℕ) → AllByRecursion (λ c. c ≡ 32 → ⊥) (hex_text bs)
hex_solid bs = cond_both (eqb (length bs) 0) (codes "-") (flat_map hex_pair bs) (AllByRecursion (λ c. c ≡ 32 → ⊥)) (λ _. ((λ e. omega arith), tt)) (λ _. pairs_solid bs)

own : IsNumeralModel (λ ds. all_ascii_digits ds ≡ true) (value_after 0)
own = numerals_by_fold _ (search rules) value_after (search rules)

digits_solid : (ds : List ℕ) → all_ascii_digits ds ≡ true → AllByRecursion (λ c. c ≡ 32 → ⊥) ds
digits_solid [] h = tt
digits_solid (c ∷ cs) h =
    let p = and_parts (is_ascii_digit c) (all_ascii_digits cs) h in
    ((λ e. grind (arith, nat_tests, p.0)), digits_solid cs p.1)

number_back : (n : ℕ) → n < 2 ^ 64 → number_of (decimal n) ≡ Some n
number_back n h =
    let z : eqb (length (decimal n)) 0 ≡ false = grind (arith, nat_tests, decimal_nonempty n h) in
    let d : all_ascii_digits (decimal n) ≡ true = digits_decimal own n h in
    let e : value_after 0 (decimal n) ≡ n = digits_value-decimal own n h in
    let l : ltb n (2 ^ 64) ≡ true = grind (arith, nat_tests) in
    rw (z, d, e, l)

spdm_back : (class message : List ℕ) (n : ℕ) → Sayable (read_spdm class n message)
    → read_spdm_from (hex_text class ∷ decimal n ∷ hex_text message ∷ []) ≡ Ok (read_spdm class n message)
spdm_back class message n can = rw (hex_back class can.0, number_back n can.1, hex_back message can.2)

dice_back : (message : List ℕ) → Sayable (read_dice message) → read_dice_from (hex_text message ∷ []) ≡ Ok (read_dice message)
dice_back message can = rw (hex_back message can)

-- the line of a request is read as that request
pub line_back : (asked : Request) → Sayable asked → command_of (line_of asked) ≡ Ok (Some asked)
line_back (read_spdm class n message) can =
    let solid : Solid (hex_text class ∷ decimal n ∷ hex_text message ∷ [])
    = (hex_solid class, (digits_solid (decimal n) (digits_decimal own n can.1), (hex_solid message, tt))) in
    ap (λ (ws : List (List ℕ)). then (read_spdm_from ws) (λ asked. Ok (Some asked))) (words_spaced (hex_text class) (decimal n ∷ hex_text message ∷ []) solid)
    ∙ ap (λ (h : Heard Request). then h (λ asked. Ok (Some asked))) (spdm_back class message n can)
line_back (read_dice message) can =
    ap (λ (ws : List (List ℕ)). then (read_dice_from ws) (λ asked. Ok (Some asked))) (words_spaced (hex_text message) [] (hex_solid message, tt))
    ∙ ap (λ (h : Heard Request). then h (λ asked. Ok (Some asked))) (dice_back message can)
