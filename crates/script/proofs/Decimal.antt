use Rattle.std.proofs.Common.{◌≡◌, ℕ, ◌+◌, ◌-◌, ◌*◌, ◌^◌, ◌<◌, ◌≤◌, Bool, true, false, ◌&&◌, eqb, ltb, ◌⊎◌, List, [], ◌∷◌, length, get_or, drop, Some, None, sym, ap, ◌∙◌, inl, inr, arith}
use Rattle.std.specs.Char.{is_ascii_digit}
use Rattle.std.specs.Str.{all_ascii_digits}
use Rattle.std.proofs.lemmas.List.{drop_all, at_drop_more}
use Rattle.std.proofs.lemmas.Bool.Decides.{nat_tests}
use Rattle.script.specs.Numbers.{value_after, small, digit_after, number_of}

value_after_ge : (n : ℕ) (cs : List ℕ) → n ≤ value_after n cs
value_after_ge n [] = omega arith
value_after_ge n (c ∷ cs) = omega (arith, value_after_ge (n * 10 + (c - 48)) cs)

small_some : (b : Bool) (n m : ℕ) → small b n ≡ Some m → (b ≡ true) × (n ≡ m) × (m < 2 ^ 64)
small_some b n m e = (grind (arith, nat_tests), grind (arith, nat_tests), grind (arith, nat_tests))

small_none : (b : Bool) (n : ℕ) → small b n ≡ None → (b ≡ false) ⊎ (2 ^ 64 ≤ n)
small_none b n e = grind (arith, nat_tests)

none_small : (b : Bool) (n : ℕ) → (b ≡ false) ⊎ (2 ^ 64 ≤ n) → small b n ≡ None
none_small b n h = grind (arith, nat_tests)

-- the digits before i have the value v, and those from i on are still to be read
pub record Read (w : List ℕ) (i v : ℕ) : Type 0 where
  pub digits : all_ascii_digits w ≡ all_ascii_digits (drop i w)
  pub value : value_after 0 w ≡ value_after v (drop i w)
  pub fits : v < 2 ^ 64

digits_on : (w : List ℕ) (i v : ℕ) → i < length w → Read w i v → all_ascii_digits w ≡ (is_ascii_digit (get_or w i 0) && all_ascii_digits (drop (i + 1) w))
digits_on w i v h r = r.digits ∙ at_drop_more all_ascii_digits w i 0 h

value_on : (w : List ℕ) (i v : ℕ) → i < length w → Read w i v
    → value_after 0 w ≡ value_after (v * 10 + (get_or w i 0 - 48)) (drop (i + 1) w)
value_on w i v h r = r.value ∙ at_drop_more (value_after v) w i 0 h

pub read_more : (w : List ℕ) (i v u : ℕ) → i < length w → Read w i v → digit_after v (get_or w i 0) ≡ Some u → Read w (i + 1) u
read_more w i v u h r e =
    let s = small_some (is_ascii_digit (get_or w i 0)) (v * 10 + (get_or w i 0 - 48)) u e in
    record {
      digits = digits_on w i v h r ∙ ap (λ (b : Bool). b && all_ascii_digits (drop (i + 1) w)) s.0;
      value = value_on w i v h r ∙ ap (λ (n : ℕ). value_after n (drop (i + 1) w)) s.1;
      fits = s.2;
    }

spoils : (w : List ℕ) (i v : ℕ) → i < length w → Read w i v → (is_ascii_digit (get_or w i 0) ≡ false) ⊎ (2 ^ 64 ≤ v * 10 + (get_or w i 0 - 48))
    → small (all_ascii_digits w) (value_after 0 w) ≡ None
spoils w i v h r (inl e) = none_small _ _ (inl (digits_on w i v h r ∙ ap (λ (b : Bool). b && all_ascii_digits (drop (i + 1) w)) e))
spoils w i v h r (inr l) =
    let m : 2 ^ 64 ≤ value_after 0 w
    = omega (arith, value_on w i v h r, value_after_ge (v * 10 + (get_or w i 0 - 48)) (drop (i + 1) w)) in
    none_small _ _ (inr m)

pub read_bad : (w : List ℕ) (i v : ℕ) → i < length w → Read w i v → digit_after v (get_or w i 0) ≡ None → number_of w ≡ None
read_bad w i v h r e =
    let s : small (all_ascii_digits w) (value_after 0 w) ≡ None
    = spoils w i v h r (small_none (is_ascii_digit (get_or w i 0)) (v * 10 + (get_or w i 0 - 48)) e) in
    let z : eqb (length w) 0 ≡ false = grind (arith, nat_tests) in
    rw z s

pub read_all : (w : List ℕ) (i v : ℕ) → false ≡ eqb (length w) 0 → length w ≤ i → Read w i v → number_of w ≡ Some v
read_all w i v z h r =
    let d : all_ascii_digits w ≡ true = r.digits ∙ ap all_ascii_digits (drop_all i w h) in
    let e : value_after 0 w ≡ v = r.value ∙ ap (value_after v) (drop_all i w h) in
    let l : ltb v (2 ^ 64) ≡ true = grind (arith, nat_tests, r.fits) in
    rw (sym z, d, e, l)
