use Rattle.std.proofs.Common.{◌≡◌, ◌+◌, add-one, ◌≢◌, ℕ, zero, suc, ◌<◌, eqb, List, [], ◌∷◌, length, take, drop, sym, refl, ap, ◌∙◌, arith}
use Rattle.std.specs.List.{AllWithin, HoldsAt}
use Rattle.std.proofs.lemmas.Bool.{eq-eqb, ne_eqb, eqb-true, eqb-false, cond_both}
use Rattle.script.specs.Words.{onto, words_of, spaced, Solid}

-- a line without a space is one word
pub one_word : (l : List ℕ) → AllWithin (λ c. c ≢ 32) l 0 (length l) → words_of l ≡ l ∷ []
one_word [] n = refl
one_word (c ∷ cs) n = rw (ne_eqb c 32 (n 0 0 (omega arith) (omega arith)), one_word cs (λ k d _ h. n (suc k) d (omega arith) (omega arith)))

space_at : (l : List ℕ) (i : ℕ) → i < length l → HoldsAt (λ c. c ≡ 32) l i → AllWithin (λ c. c ≢ 32) l 0 i
    → words_of l ≡ take i l ∷ words_of (drop (suc i) l)
space_at [] i h s n = absurd (omega arith)
space_at (c ∷ cs) zero h s n = rw (eq-eqb c 32 (s 0))
space_at (c ∷ cs) (suc i) h s n =
    rw (ne_eqb c 32 (n 0 0 (omega arith) (omega arith)), space_at cs i (omega arith) s (λ k d _ l. n (suc k) d (omega arith) (omega arith)))

-- the first space ends the first word
pub word_ends : (l : List ℕ) (i : ℕ) → (i < length l) × HoldsAt (λ c. c ≡ 32) l i × AllWithin (λ c. c ≢ 32) l 0 i
    → words_of l ≡ take i l ∷ words_of (drop (i + 1) l)
word_ends l i at = rw add-one (space_at l i at.0 at.1 at.2)

spaced_onto : (c : ℕ) (ws : List (List ℕ)) → spaced (onto c ws) ≡ c ∷ spaced ws
spaced_onto c [] = refl
spaced_onto c (w ∷ []) = refl
spaced_onto c (w ∷ v ∷ ws) = refl

spaced_next : (ws : List (List ℕ)) → 0 < length ws → spaced ([] ∷ ws) ≡ 32 ∷ spaced ws
spaced_next [] h = grind arith
spaced_next (w ∷ ws) h = refl

onto_some : (c : ℕ) (ws : List (List ℕ)) → 0 < length (onto c ws)
onto_some c [] = omega arith
onto_some c (w ∷ ws) = omega arith

pub words_some : (l : List ℕ) → 0 < length (words_of l)
words_some [] = omega arith
words_some (c ∷ cs) = cond_both (eqb c 32) _ _ (λ ws. 0 < length ws) (λ _. omega arith) (λ _. onto_some c (words_of cs))

-- the words with spaces between them are the line
pub spaced_words : (l : List ℕ) → spaced (words_of l) ≡ l
spaced_words [] = refl
spaced_words (c ∷ cs) =
    cond_both (eqb c 32) _ _ (λ ws. spaced ws ≡ c ∷ cs)
    (λ e. spaced_next (words_of cs) (words_some cs) ∙ ap (λ (l : List ℕ). 32 ∷ l) (spaced_words cs) ∙ ap (λ (x : ℕ). x ∷ cs) (sym (eqb-true c 32 e)))
    (λ _. spaced_onto c (words_of cs) ∙ ap (λ (l : List ℕ). c ∷ l) (spaced_words cs))

solid_onto : (c : ℕ) (ws : List (List ℕ)) → (c ≡ 32 → ⊥) → Solid ws → Solid (onto c ws)
solid_onto c [] n s = ((n, tt), tt)
solid_onto c (w ∷ ws) n s = ((n, s.0), s.1)

-- no word has a space
pub solid_words : (l : List ℕ) → Solid (words_of l)
solid_words [] = (tt, tt)
solid_words (c ∷ cs) =
    cond_both (eqb c 32) _ _ Solid (λ _. (tt, solid_words cs)) (λ e. solid_onto c (words_of cs) (eqb-false c 32 e) (solid_words cs))
