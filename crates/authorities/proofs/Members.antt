use Rattle.std.proofs.Common.{◌≡◌, ℕ, zero, suc, ◌+◌, ◌-◌, ◌*◌, ◌/◌, ◌%◌, ◌^◌, ◌<◌, ◌≤◌, min, Bool, true, false, cond, ◌&&◌, ◌||◌, eqb, ltb, List, [], ◌∷◌, length, Decides, sym, refl, ap, ◌∙◌, subst, ⊎_elim, mod-lt, pow-suc, div-one, add-one, arith, lit<}
use native.Mathlib.Nat.{zero-div, div_self, div-eq_of_lt, mul-mod_left}
use lib.Bits.{bit_and, bit_or, and_shr, or_shr, and_mod, or_mod, and_step, and_zero_r, and_comm}
use lib.Count.{ones, ones_step}
use Rattle.std.specs.List.{ContainsAt as Has, AllByRecursion}
use Rattle.std.proofs.lemmas.Nat.{pow_pos, pow-add, shl-shr, shr-shr, pow_below, div-add-mod', div_below}
use Rattle.std.proofs.ByRecursion.{all-has, has_append_right}
use Rattle.std.proofs.lemmas.Bool.{eqb-true, eq-eqb, ne_eqb, cases_order, cases_eq, cases_lt, and_parts, and_from, and_right, or_left, or_right, cond_both, both_ways, lt-ltb, ltb-true}
use Rattle.authorities.specs.declared.kinds.Authorities.{Authorities}
use Rattle.authorities.specs.Sets.{no_authorities, in_set, with_authority, together, covers, members, members_from}

-- bit a of a number
abbrev bit : ℕ → ℕ → Bool
bit a x = eqb (x / 2 ^ a % 2) 1

small_or : (p q : ℕ) → p < 2 → q < 2 → eqb (bit_or p q) 1 ≡ (eqb p 1 || eqb q 1)
small_or zero zero h k = refl
small_or zero (suc zero) h k = refl
small_or (suc zero) zero h k = refl
small_or (suc zero) (suc zero) h k = refl
small_or (suc (suc p)) q h k = absurd (omega arith)
small_or zero (suc (suc q)) h k = absurd (omega arith)
small_or (suc zero) (suc (suc q)) h k = absurd (omega arith)

small_and : (p q : ℕ) → p < 2 → q < 2 → eqb (bit_and p q) 1 ≡ (eqb p 1 && eqb q 1)
small_and zero zero h k = refl
small_and zero (suc zero) h k = refl
small_and (suc zero) zero h k = refl
small_and (suc zero) (suc zero) h k = refl
small_and (suc (suc p)) q h k = absurd (omega arith)
small_and zero (suc (suc q)) h k = absurd (omega arith)
small_and (suc zero) (suc (suc q)) h k = absurd (omega arith)

digit : (x : ℕ) → x % 2 < 2
digit x = mod-lt x (lit< tt)

bit_or_lem : (a x y : ℕ) → bit a (bit_or x y) ≡ (bit a x || bit a y)
bit_or_lem a x y =
    ap (λ n. eqb (n % 2) 1) (or_shr x y a)
    ∙ ap (λ n. eqb n 1) (or_mod (x / 2 ^ a) (y / 2 ^ a) 1)
    ∙ small_or (x / 2 ^ a % 2) (y / 2 ^ a % 2) (digit (x / 2 ^ a)) (digit (y / 2 ^ a))

bit_and_lem : (a x y : ℕ) → bit a (bit_and x y) ≡ (bit a x && bit a y)
bit_and_lem a x y =
    ap (λ n. eqb (n % 2) 1) (and_shr x y a)
    ∙ ap (λ n. eqb n 1) (and_mod (x / 2 ^ a) (y / 2 ^ a) 1)
    ∙ small_and (x / 2 ^ a % 2) (y / 2 ^ a % 2) (digit (x / 2 ^ a)) (digit (y / 2 ^ a))

-- the lowest bit as the machine takes it
pub bit_low : (x : ℕ) → eqb (bit_and x 1) 1 ≡ eqb (x % 2) 1
bit_low x =
    ap (λ n. eqb n 1) (and_step x 1 ∙ ap (λ n. n * 2 + min (x % 2) 1) (and_zero_r (x / 2)))
    ∙ (let h = digit x in let e : 0 * 2 + min (x % 2) 1 ≡ x % 2 = omega arith in ap (λ n. eqb n 1) e)

bit_own : (a : ℕ) → bit a (2 ^ a) ≡ true
bit_own a = ap (λ n. eqb (n % 2) 1) (div_self (pow_pos a))

high : (a d : ℕ) → 2 ^ (suc d + a) / 2 ^ a % 2 ≡ 0
high a d =
    ap (λ n. n / 2 ^ a % 2) (pow-add 2 (suc d) a)
    ∙ ap (λ n. n % 2) (shl-shr (2 ^ suc d) a)
    ∙ ap (λ n. n % 2) (pow-suc 2 d)
    ∙ mul-mod_left (2 ^ d) 2

bit_other : (a b : ℕ) → (a ≡ b → ⊥) → bit a (2 ^ b) ≡ false
bit_other a b ne = ⊎_elim (λ e. absurd (ne e)) (⊎_elim below above) (cases_order a b)
  where
    below : a < b → bit a (2 ^ b) ≡ false
    below l =
        let e : b ≡ suc (b - suc a) + a = omega arith in
        ap (λ n. eqb (2 ^ n / 2 ^ a % 2) 1) e ∙ ap (λ n. eqb n 1) (high a (b - suc a))

    above : b < a → bit a (2 ^ b) ≡ false
    above l = ap (λ n. eqb (n % 2) 1) (div-eq_of_lt (pow_below b a l))

-- a number has no bit at or above its width
bit_beyond : (k a x : ℕ) → x < 2 ^ k → k ≤ a → bit a x ≡ false
bit_beyond k a x h l = ap (λ n. eqb (n % 2) 1) (div-eq_of_lt (wide k a x h l))
  where
    wide : (k a x : ℕ) → x < 2 ^ k → k ≤ a → x < 2 ^ a
    wide k a x h l =
        ⊎_elim (λ (e : k ≡ a). subst (λ n. x < 2 ^ n) e h)
        (⊎_elim (λ (b : k < a). let p = pow_below k a b in omega arith) (λ (b : a < k). absurd (omega arith)))
        (cases_order k a)

bit_half : (a m : ℕ) → bit a (m / 2) ≡ bit (1 + a) m
bit_half a m = ap (λ n. eqb (n % 2) 1) (shr-shr m 1 a)

bit_first : (m : ℕ) → bit 0 m ≡ eqb (m % 2) 1
bit_first m = ap (λ n. eqb (n % 2) 1) (div-one m)

halved : (k m : ℕ) → m < 2 ^ suc k → m / 2 < 2 ^ k
halved k m h = div_below m 2 (2 ^ k) (lit< tt) (rw pow-suc at h)

-- where each bit of l is a bit of m, both have l in common
all_in : (k m l : ℕ) → l < 2 ^ k → ((a : ℕ) → bit a l ≡ true → bit a m ≡ true) → bit_and m l ≡ l
all_in zero m l h f = let e : l ≡ 0 = omega arith in rw e (and_zero_r m)
all_in (suc k) m l h f =
    and_step m l
    ∙ ap (λ n. n * 2 + min (m % 2) (l % 2)) (all_in k (m / 2) (l / 2) (halved k l h) rest)
    ∙ ap (λ n. l / 2 * 2 + n) low
    ∙ div-add-mod' l 2
  where
    rest : (a : ℕ) → bit a (l / 2) ≡ true → bit a (m / 2) ≡ true
    rest a e = bit_half a m ∙ f (1 + a) (sym (bit_half a l) ∙ e)

    low : min (m % 2) (l % 2) ≡ l % 2
    low =
        let lm = digit l in
        let mm = digit m in
        ⊎_elim
        (λ (e : l % 2 ≡ 1).
        let g : m % 2 ≡ 1 = eqb-true (m % 2) 1 (sym (bit_first m) ∙ f 0 (bit_first l ∙ eq-eqb (l % 2) 1 e)) in
        omega arith)
        (λ (n : l % 2 ≡ 1 → ⊥). omega arith)
        (cases_eq (l % 2) 1)

below_power : (n : ℕ) → n < 2 ^ n
below_power zero = lit< tt
below_power (suc n) = let e = pow-suc 2 n in let h = below_power n in omega arith

-- numbers with the same bits are the same
same_bits : (x y : ℕ) → ((a : ℕ) → bit a x ≡ bit a y) → x ≡ y
same_bits x y f =
    sym (all_in x y x (below_power x) (λ a e. sym (f a) ∙ e))
    ∙ and_comm y x
    ∙ all_in y x y (below_power y) (λ a e. f a ∙ e)

or_law : (x y z : Bool) → ((x || y) || z) ≡ ((x || z) || y)
or_law true y z = refl
or_law false true true = refl
or_law false true false = refl
or_law false false true = refl
or_law false false false = refl

or_twice : (x y : Bool) → ((x || y) || y) ≡ (x || y)
or_twice true y = refl
or_twice false true = refl
or_twice false false = refl

or_swap : (x p q : ℕ) → bit_or (bit_or x p) q ≡ bit_or (bit_or x q) p
or_swap x p q =
    same_bits _ _ (λ a.
    bit_or_lem a (bit_or x p) q
    ∙ ap (λ v. v || bit a q) (bit_or_lem a x p)
    ∙ or_law (bit a x) (bit a p) (bit a q)
    ∙ sym (ap (λ v. v || bit a p) (bit_or_lem a x q))
    ∙ sym (bit_or_lem a (bit_or x q) p))

or_again : (x p : ℕ) → bit_or (bit_or x p) p ≡ bit_or x p
or_again x p =
    same_bits _ _ (λ a.
    bit_or_lem a (bit_or x p) p
    ∙ ap (λ v. v || bit a p) (bit_or_lem a x p)
    ∙ or_twice (bit a x) (bit a p)
    ∙ sym (bit_or_lem a x p))

or_false : (x y : Bool) → y ≡ false → (x || y) ≡ x
or_false true y e = refl
or_false false y e = e

-- a set with the bits of p where a test holds
abbrev added : Bool → ℕ → Authorities → Authorities
added u p s = cond u (record { bits = bit_or s.bits p }) s

added_order : (u v : Bool) (p q : ℕ) (s : Authorities) → added v q (added u p s) ≡ added u p (added v q s)
added_order true true p q s = ap (λ (n : ℕ). record { bits = n }) (or_swap s.bits p q)
added_order true false p q s = refl
added_order false true p q s = refl
added_order false false p q s = refl

added_again : (u : Bool) (p : ℕ) (s : Authorities) → added u p (added u p s) ≡ added u p s
added_again true p s = ap (λ (n : ℕ). record { bits = n }) (or_again s.bits p)
added_again false p s = refl

-- the order in which authorities are added does not matter
pub with_order : (s : Authorities) (a b : ℕ) → with_authority (with_authority s a) b ≡ with_authority (with_authority s b) a
with_order s a b = added_order (ltb a 64) (ltb b 64) (2 ^ a) (2 ^ b) s

pub with_again : (s : Authorities) (a : ℕ) → with_authority (with_authority s a) a ≡ with_authority s a
with_again s a = added_again (ltb a 64) (2 ^ a) s

-- the new authority is in the set
pub with_own : (s : Authorities) (a : ℕ) → a < 64 → in_set (with_authority s a) a ≡ true
with_own s a h =
    let below : ltb a 64 ≡ true = lt-ltb a 64 h in
    ap (λ u. in_set (added u (2 ^ a) s) a) below
    ∙ and_from (ltb a 64) (bit a (bit_or s.bits (2 ^ a))) below
    (bit_or_lem a s.bits (2 ^ a) ∙ or_right (bit a s.bits) (bit a (2 ^ a)) (bit_own a))

-- all others are as they were
pub with_others : (s : Authorities) (a b : ℕ) → (b ≡ a → ⊥) → in_set (with_authority s a) b ≡ in_set s b
with_others s a b ne =
    cond_both (ltb a 64) (record { bits = bit_or s.bits (2 ^ a) }) s (λ t. in_set t b ≡ in_set s b)
    (λ _. ap (λ v. ltb b 64 && v) (bit_or_lem b s.bits (2 ^ a) ∙ or_false (bit b s.bits) (bit b (2 ^ a)) (bit_other b a ne)))
    (λ _. refl)

-- of both sets together
pub in_together : (s t : Authorities) (a : ℕ) → in_set (together s t) a ≡ (in_set s a || in_set t a)
in_together s t a = ap (λ v. ltb a 64 && v) (bit_or_lem a s.bits t.bits) ∙ spread (ltb a 64) (bit a s.bits) (bit a t.bits)
  where
    spread : (u x y : Bool) → (u && (x || y)) ≡ ((u && x) || (u && y))
    spread true x y = refl
    spread false x y = refl

covers_bits : (m l : ℕ) → Decides (eqb (bit_and m l) l) ((a : ℕ) → bit a l ≡ true → bit a m ≡ true)
covers_bits m l = (
  λ e a h. (and_parts (bit a m) (bit a l) (sym (bit_and_lem a m l) ∙ ap (bit a) (eqb-true (bit_and m l) l e) ∙ h)).0,
  λ f. eq-eqb (bit_and m l) l (all_in l m l (below_power l) f),
)

-- a set covers another exactly when it has every authority of it
pub covers_decides : (s l : Authorities) → l.bits < 2 ^ 64 → Decides (covers s l) ((a : ℕ) → in_set l a ≡ true → in_set s a ≡ true)
covers_decides s l fits = (forth, back)
  where
    forth : covers s l ≡ true → (a : ℕ) → in_set l a ≡ true → in_set s a ≡ true
    forth e a h =
        let p = and_parts (ltb a 64) (bit a l.bits) h in
        and_from (ltb a 64) (bit a s.bits) p.0 ((covers_bits s.bits l.bits).0 e a p.1)

    back : ((a : ℕ) → in_set l a ≡ true → in_set s a ≡ true) → covers s l ≡ true
    back f =
        (covers_bits s.bits l.bits).1 (λ a e.
        ⊎_elim
        (λ (h : a < 64). (and_parts (ltb a 64) (bit a s.bits) (f a (and_from (ltb a 64) (bit a l.bits) (lt-ltb a 64 h) e))).1)
        (λ (h : 64 ≤ a). absurd (both_ways (bit a l.bits) (bit_beyond 64 a l.bits fits h) e))
        (cases_lt a 64))

-- what a set covers it covers with more bits
covers_more : (m p l : ℕ) → eqb (bit_and m l) l ≡ true → eqb (bit_and (bit_or m p) l) l ≡ true
covers_more m p l e =
    (covers_bits (bit_or m p) l).1 (λ a h. bit_or_lem a m p ∙ or_left (bit a m) (bit a p) ((covers_bits m l).0 e a h))

pub covers_with : (s l : Authorities) (a : ℕ) → covers s l ≡ true → covers (with_authority s a) l ≡ true
covers_with s l a e =
    cond_both (ltb a 64) (record { bits = bit_or s.bits (2 ^ a) }) s (λ t. covers t l ≡ true)
    (λ _. covers_more s.bits (2 ^ a) l.bits e) (λ _. e)

pub covers_together : (s t l : Authorities) → covers s l ≡ true → covers (together s t) l ≡ true
covers_together s t l e = covers_more s.bits t.bits l.bits e

-- nobody is in the empty set
pub in_none : (a : ℕ) → in_set no_authorities a ≡ false
in_none a = and_right (ltb a 64) (bit a 0) (ap (λ n. eqb (n % 2) 1) (zero-div (2 ^ a)))

-- each listed member is in the set
members_in : (s : Authorities) (a n : ℕ) → AllByRecursion (λ b. in_set s b ≡ true) (members_from s a n)
unfolding members_from
members_in s a zero = tt
members_in s a (suc n) =
    cond_both (in_set s a) (a ∷ members_from s (suc a) n) (members_from s (suc a) n) (AllByRecursion (λ b. in_set s b ≡ true))
    (λ e. (e, members_in s (suc a) n)) (λ _. members_in s (suc a) n)

-- each of the n numbers from a on that is in the set is listed
members_has : (s : Authorities) (a n b : ℕ) → a ≤ b → b < a + n → in_set s b ≡ true → Has (members_from s a n) b
unfolding members_from
members_has s a zero b low high e = absurd (omega arith)
members_has s a (suc n) b low high e =
    ⊎_elim
    (λ (q : b ≡ a).
    let here : in_set s a ≡ true = sym (ap (in_set s) q) ∙ e in
    let P : Bool → Type 0 = λ u. Has (cond u (a ∷ members_from s (suc a) n) (members_from s (suc a) n)) b in
    subst P (sym here) (0, omega arith, λ d. sym q))
    (λ (ne : b ≡ a → ⊥).
    let rest : Has (members_from s (suc a) n) b = members_has s (suc a) n b (omega arith) (omega arith) e in
    cond_both (in_set s a) (a ∷ members_from s (suc a) n) (members_from s (suc a) n) (λ l. Has l b)
    (λ _. has_append_right (a ∷ []) (members_from s (suc a) n) b rest) (λ _. rest))
    (cases_eq b a)

pub members_decides : (s : Authorities) (a : ℕ) → Decides (in_set s a) (Has (members s) a)
unfolding members
members_decides s a = (
  λ e. members_has s 0 64 a (omega arith) (ltb-true a 64 (and_parts (ltb a 64) (bit a s.bits) e).0) e,
  λ h. all-has (λ b. in_set s b ≡ true) (members s) a (members_in s 0 64) h,
)

ones_none : (n : ℕ) → n < 1 → 0 ≡ ones n
unfolding ones
ones_none n h = let e : 0 ≡ n = omega arith in ap ones e

-- the number without its first a + 1 digits
next : (s : Authorities) (a : ℕ) → s.bits / 2 ^ a / 2 ≡ s.bits / 2 ^ suc a
next s a = shr-shr s.bits a 1 ∙ ap (λ m. s.bits / 2 ^ m) (add-one a)

-- one digit d more, and one member more where it is set
ones_more : (a d n : ℕ) (rest : List ℕ) → a < 64 → d < 2 → n ≡ d + length rest → length (cond (ltb a 64 && eqb d 1) (a ∷ rest) rest) ≡ n
ones_more a d n rest low small e =
    ⊎_elim
    (λ (one : d ≡ 1).
    ap (λ u. length (cond u (a ∷ rest) rest)) (and_from (ltb a 64) (eqb d 1) (lt-ltb a 64 low) (eq-eqb d 1 one)) ∙ (omega arith))
    (λ (ne : d ≡ 1 → ⊥). ap (λ u. length (cond u (a ∷ rest) rest)) (and_right (ltb a 64) (eqb d 1) (ne_eqb d 1 ne)) ∙ (omega arith))
    (cases_eq d 1)

-- the set digits above the first a, and the members from a on
members_ones : (s : Authorities) (a n : ℕ) → a + n ≤ 64 → s.bits / 2 ^ a < 2 ^ n → length (members_from s a n) ≡ ones (s.bits / 2 ^ a)
unfolding members_from
members_ones s a zero k h = ones_none (s.bits / 2 ^ a) h
members_ones s a (suc n) k h =
    let later = members_ones s (suc a) n (omega arith) (subst (λ m. m < 2 ^ n) (next s a) (halved n (s.bits / 2 ^ a) h)) in
    ones_more a (s.bits / 2 ^ a % 2) _ (members_from s (suc a) n) (omega arith) (digit (s.bits / 2 ^ a))
    (ones_step (s.bits / 2 ^ a) ∙ ap (λ m. s.bits / 2 ^ a % 2 + m) (ap ones (next s a) ∙ sym later))

-- as many digits are set as there are members
pub members_count : (s : Authorities) → s.bits < 2 ^ 64 → ones s.bits ≡ length (members s)
unfolding members
members_count s h =
    ap ones (sym (div-one s.bits)) ∙ sym (members_ones s 0 64 (omega arith) (subst (λ m. m < 2 ^ 64) (sym (div-one s.bits)) h))
