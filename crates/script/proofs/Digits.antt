use Rattle.std.proofs.Common.{◌≡◌, ℕ, ◌+◌, ◌*◌, ◌/◌, ◌%◌, ◌<◌, false, eqb, List, [], ◌∷◌, ◌++◌, length, get_or, Some, None, codes, Option, sym, refl, ap, ◌∙◌, append_assoc, arith}
use Rattle.std.specs.List.{flat_map, AllByRecursion}
use Rattle.std.specs.Option.{option_map}
use Rattle.std.specs.Str.{bytes_eq}
use Rattle.std.proofs.lemmas.Bool.{and_right}
use Rattle.std.proofs.lemmas.Bool.Decides.{nat_tests}
use Rattle.script.specs.Hex.{digit_of, byte_of, before, pair_bytes, hex_bytes, hex_digit, hex_pair, hex_text}

push_byte : (bs : List ℕ) (b : ℕ) (o : Option (List ℕ))
    → option_map (λ cs. bs ++ cs) (before (Some b) o) ≡ option_map (λ cs. (bs ++ b ∷ []) ++ cs) o
push_byte bs b None = refl
push_byte bs b (Some cs) = ap Some (sym (append_assoc bs (b ∷ []) cs))

none_yet : (o : Option (List ℕ)) → o ≡ option_map (λ cs. [] ++ cs) o
none_yet None = refl
none_yet (Some cs) = refl

-- before the first pair
pub pairs_begin : (word rest bs : List ℕ) → rest ≡ word → bs ≡ [] → pair_bytes word ≡ option_map (λ cs. bs ++ cs) (pair_bytes rest)
pairs_begin word rest bs r b = rw (r, b) (none_yet (pair_bytes word))

pair_first : (ds left bs : List ℕ) (b : ℕ) → length ds ≡ 2 → byte_of (digit_of (get_or ds 0 0)) (digit_of (get_or ds 1 0)) ≡ Some b
    → option_map (λ cs. bs ++ cs) (pair_bytes (ds ++ left)) ≡ option_map (λ cs. (bs ++ b ∷ []) ++ cs) (pair_bytes left)
pair_first [] left bs b n e = absurd (omega arith)
pair_first (h ∷ []) left bs b n e = absurd (omega arith)
pair_first (h ∷ l ∷ []) left bs b n e = rw e (push_byte bs b (pair_bytes left))
pair_first (h ∷ l ∷ d ∷ ds) left bs b n e = absurd (omega arith)

before_none : (b : Option ℕ) → before b None ≡ None
before_none None = refl
before_none (Some b) = refl

-- digits in an odd number are no pairs
pub odd_none : (xs : List ℕ) → length xs % 2 ≡ 1 → pair_bytes xs ≡ None
odd_none [] h = grind arith
odd_none (x ∷ []) h = refl
odd_none (x ∷ y ∷ xs) h =
    let e : pair_bytes xs ≡ None = odd_none xs (omega arith) in
    ap (λ (o : Option (List ℕ)). before (byte_of (digit_of x) (digit_of y)) o) e ∙ before_none _

-- one more pair read, its byte after those that are there
pub pair_read : (word rest ds left bs more : List ℕ) (b : ℕ) → pair_bytes word ≡ option_map (λ cs. bs ++ cs) (pair_bytes rest)
    → rest ≡ ds ++ left → length ds ≡ 2 → Some b ≡ byte_of (digit_of (get_or ds 0 0)) (digit_of (get_or ds 1 0)) → more ≡ bs ++ b ∷ []
    → pair_bytes word ≡ option_map (λ cs. more ++ cs) (pair_bytes left)
pair_read word rest ds left bs more b p r n e m =
    p ∙ rw (r, m) (pair_first ds left bs b n (sym e))

digit_back : (d : ℕ) → d < 16 → digit_of (hex_digit d) ≡ Some d
digit_back d h = grind (arith, nat_tests)

pair_back : (b : ℕ) → b < 256 → byte_of (digit_of (hex_digit (b / 16))) (digit_of (hex_digit (b % 16))) ≡ Some b
pair_back b h =
    let e : b / 16 * 16 + b % 16 ≡ b = omega arith in
    rw (digit_back (b / 16) (omega arith), digit_back (b % 16) (omega arith), e)

pairs_back : (xs : List ℕ) → AllByRecursion (λ x. x < 256) xs → pair_bytes (flat_map hex_pair xs) ≡ Some xs
pairs_back [] all = refl
pairs_back (x ∷ xs) all = rw (pair_back x all.0, pairs_back xs all.1)

text_pairs : (bs : List ℕ) → 0 < length bs → hex_text bs ≡ flat_map hex_pair bs
text_pairs bs h = grind (arith, nat_tests)

word_pairs : (w bs : List ℕ) → 0 < length w → bytes_eq w (codes "-") ≡ false → pair_bytes w ≡ Some bs → hex_bytes w ≡ Some bs
word_pairs w bs h s e = let z : eqb (length w) 0 ≡ false = grind (arith, nat_tests) in rw (z, s) e

-- reading what was written gives the bytes back
pub hex_back : (xs : List ℕ) → AllByRecursion (λ x. x < 256) xs → hex_bytes (hex_text xs) ≡ Some xs
hex_back [] all = refl
hex_back (x ∷ xs) all =
    rw (text_pairs (x ∷ xs) (omega arith))
    (word_pairs (flat_map hex_pair (x ∷ xs)) (x ∷ xs) (omega arith) (and_right (eqb (hex_digit (x / 16)) 45) false refl) (pairs_back (x ∷ xs) all))
