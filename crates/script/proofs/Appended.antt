use Rattle.std.proofs.Common.{◌≡◌, ℕ, zero, suc, ◌+◌, ◌*◌, ◌/◌, ◌%◌, ◌<◌, List, [], ◌∷◌, ◌++◌, length, get_or, take, slice_set, sym, subst, ap, ◌∙◌, append_assoc, arith}
use Rattle.std.specs.List.{flat_map}
use Rattle.std.specs.Str.{IsAscii, IsUtf8}
use Rattle.std.proofs.lemmas.Str.{IsUtf8-append, IsUtf8-from_ascii}
use Rattle.std.proofs.lemmas.Grind.{flat_map-append}
use Rattle.std.proofs.lemmas.List.{flat_map_more, take_more, take_more_set, length-set}
use Rattle.script.specs.Hex.{hex_digit, hex_pair}

-- two digits put behind those that are there
two_put : (b : List ℕ) (i h l : ℕ) → 2 * i + 1 < length b
    → take (2 * (i + 1)) (slice_set (slice_set b (2 * i) h) (2 * i + 1) l) ≡ take (2 * i) b ++ (h ∷ l ∷ [])
two_put b i h l n =
    let e : 2 * (i + 1) ≡ 2 * i + 1 + 1 = omega arith in
    let c : List ℕ = slice_set b (2 * i) h in
    ap (λ (k : ℕ). take k (slice_set c (2 * i + 1) l)) e
    ∙ take_more_set c (2 * i + 1) l (omega (arith, length-set b (2 * i) h))
    ∙ ap (λ (x : List ℕ). x ++ (l ∷ [])) (take_more_set b (2 * i) h (omega arith))
    ∙ append_assoc (take (2 * i) b) (h ∷ []) (l ∷ [])

-- one more byte, put as two digits
pub digits_more : (b xs : List ℕ) (i h l : ℕ) → 2 * i + 1 < length b → i < length xs → take (2 * i) b ≡ flat_map hex_pair (take i xs)
    → h ≡ hex_digit (get_or xs i 0 / 16) → l ≡ hex_digit (get_or xs i 0 % 16)
    → take (2 * (i + 1)) (slice_set (slice_set b (2 * i) h) (2 * i + 1) l) ≡ flat_map hex_pair (take (i + 1) xs)
digits_more b xs i h l n m was p q =
    two_put b i h l n
    ∙ ap (λ (x : List ℕ). x ++ (h ∷ l ∷ [])) was
    ∙ ap (λ (x : ℕ). flat_map hex_pair (take i xs) ++ (x ∷ l ∷ [])) p
    ∙ ap (λ (x : ℕ). flat_map hex_pair (take i xs) ++ (hex_digit (get_or xs i 0 / 16) ∷ x ∷ [])) q
    ∙ flat_map_more hex_pair [] (take i xs) (get_or xs i 0)
    ∙ ap (λ (x : List ℕ). flat_map hex_pair x) (sym (take_more xs i 0 m))

two_ascii : (h l : ℕ) → h < 128 → l < 128 → IsAscii (h ∷ l ∷ [])
two_ascii h l a b zero = a
two_ascii h l a b (suc zero) = b
two_ascii h l a b (suc (suc i)) = omega arith

-- what is put so is text
pub utf8_more : (b : List ℕ) (i h l : ℕ) → 2 * i + 1 < length b → IsUtf8 (take (2 * i) b) → h < 128 → l < 128
    → IsUtf8 (take (2 * (i + 1)) (slice_set (slice_set b (2 * i) h) (2 * i + 1) l))
utf8_more b i h l n was a c =
    subst IsUtf8 (sym (two_put b i h l n)) (IsUtf8-append (take (2 * i) b) (h ∷ l ∷ []) was (IsUtf8-from_ascii (h ∷ l ∷ []) (two_ascii h l a c)))

-- the digits of some of the bytes that are left, put behind those that are there
pub pairs_more : (done rest bs left : List ℕ) → rest ≡ bs ++ left
    → (done ++ flat_map hex_pair bs) ++ flat_map hex_pair left ≡ done ++ flat_map hex_pair rest
pairs_more done rest bs left r =
    append_assoc done (flat_map hex_pair bs) (flat_map hex_pair left)
    ∙ ap (λ (x : List ℕ). done ++ x) (sym (flat_map-append hex_pair bs left) ∙ ap (λ (x : List ℕ). flat_map hex_pair x) (sym r))
