use Rattle.std.proofs.Common.{◌≡◌, ℕ, zero, suc, ◌+◌, ◌-◌, ◌%◌, ◌<◌, ◌≤◌, min, Bool, true, false, cond, ◌&&◌, eqb, ltb, leb, List, [], ◌∷◌, ◌++◌, length, get_or, take, drop, Some, None, Ok, Option, sym, refl, ap, ◌∙◌, subst, inl, inr, append_assoc, arith}
use Rattle.std.proofs.lemmas.List.{length-append, length-take-le, length-drop, take_at, drop_at, take-append-drop, get_or-take, nil_from_length}
use Rattle.std.proofs.lemmas.Bool.{and_parts, eqb-true, eqb-false, leb-true, ltb-true, ltb-false}
use Rattle.claims.proofs.Kept.{some_if}
use Rattle.der.specs.declared.kinds.Size.{Size}
use Rattle.der.specs.declared.kinds.Head.{Head}
use Rattle.parts.specs.declared.kinds.Read.{Read}
use Rattle.refusals.specs.Reading.{Outcome}
use Rattle.parts.specs.Numbers.{big}
use Rattle.der.specs.Heads.{with, long_tag, long_size, size_of, head_of, tag_width}
use Rattle.parts.specs.Parts.{Piece, front, after as behind}
use Rattle.der.specs.Contents.{shortest, integer_in}
use Rattle.parts.specs.Holders.{Element, elements, elements_in}
use Rattle.der.specs.Items.{shape_of, Front, item_of}
use Rattle.der.specs.Encodes.{Sized, inside, after, Coded, coded, Chain, done, more, Number, number}
use Rattle.refusals.proofs.Outcomes.{onward_back, need_back, cond_back, some_same, mapped_back, ok_same}
use Rattle.der.proofs.Encoded.{size_first}

-- what is read was encoded

-- m begins with the bytes of a length
pub record SizeIs (m : List ℕ) (s : Size) : Type 0 where
  pub bytes : List ℕ
  pub rest : List ℕ
  pub sized : Sized s.size bytes
  pub whole : m ≡ bytes ++ rest
  pub long : length bytes ≡ s.width

short_back : (x : ℕ) (xs : List ℕ) (s : Size) → x < 128 → ◌≡◌ {A = Option Size} (Some (record { width = 1; size = x })) (Some s) → SizeIs (x ∷ xs) s
short_back x xs s l e =
    let P : Size → Type 0 = λ z. SizeIs (x ∷ xs) z in
    subst P (some_same _ s e) (record { bytes = x ∷ []; rest = xs; sized = inside l; whole = refl; long = refl })

long_back : (w : ℕ) (xs : List ℕ) (s : Size) → long_size w xs ≡ Some s → SizeIs ((128 + w) ∷ xs) s
long_back w xs s e =
    let n : ℕ = big (take w xs) in
    let p = some_if (leb 1 w && leb w 8 && leb w (length xs) && leb 1 (get_or xs 0 0) && leb 128 n) (record { width = 1 + w; size = n }) s e in
    let a = and_parts (leb 1 w && leb w 8 && leb w (length xs) && leb 1 (get_or xs 0 0)) (leb 128 n) p.0 in
    let b = and_parts (leb 1 w && leb w 8 && leb w (length xs)) (leb 1 (get_or xs 0 0)) a.0 in
    let c = and_parts (leb 1 w && leb w 8) (leb w (length xs)) b.0 in
    let d = and_parts (leb 1 w) (leb w 8) c.0 in
    let some : 1 ≤ w = leb-true _ _ d.0 in
    let few : w ≤ 8 = leb-true _ _ d.1 in
    let fits : w ≤ length xs = leb-true _ _ c.1 in
    let lead : 1 ≤ get_or xs 0 0 = leb-true _ _ b.1 in
    let large : 128 ≤ n = leb-true _ _ a.1 in
    let ds : List ℕ = take w xs in
    let lw : length ds ≡ w = length-take-le w xs fits in
    let g : get_or ds 0 0 ≡ get_or xs 0 0 = get_or-take w xs 0 0 some in
    let P : Size → Type 0 = λ z. SizeIs ((128 + w) ∷ xs) z in
    subst P p.1 (record {
      bytes = (128 + length ds) ∷ ds;
      rest = drop w xs;
      sized = after ds (omega arith) (omega arith) (omega arith) refl large;
      whole = ap (λ (k : ℕ). (128 + k) ∷ xs) (sym lw) ∙ ap (λ (l : List ℕ). (128 + length ds) ∷ l) (sym (take-append-drop w xs));
      long = omega arith;
    })

pub sized_back : (m : List ℕ) (s : Size) → size_of m ≡ Some s → SizeIs m s
sized_back [] s e = absurd (grind arith)
sized_back (x ∷ xs) s e =
    elim (cond_back (ltb x 128) _ _ _ (sym (size_first x xs) ∙ e)) [
      | inl a ↦ short_back x xs s (ltb-true _ _ a.0) a.1
      | inr a ↦
          let large : 128 ≤ x = ltb-false _ _ a.0 in
          let P : ℕ → Type 0 = λ k. SizeIs (k ∷ xs) s in
          let i : 128 + (x - 128) ≡ x = omega arith in
          subst P i (long_back (x - 128) xs s a.1)
    ]

pub with_back : {A B : Type 0} (o : Option A) (f : A → Option B) (y : B) → with o f ≡ Some y → (x : A) × (o ≡ Some x) × (f x ≡ Some y)
with_back None f y e = absurd (grind arith)
with_back (Some x) f y e = (x, refl, e)

-- a tag has a byte, and just one where it is none of several
tag_back : (m : List ℕ) (w : ℕ) → tag_width m ≡ Some w → (1 ≤ w) × (get_or m 0 0 % 32 < 31 → w ≡ 1)
tag_back m w e =
    let a = some_of (ltb 0 (length m)) _ w e in
    elim (cond_back (eqb (get_or m 0 0 % 32) 31) _ _ _ a) [
      | inl b ↦
          let p = mapped_back (λ n. 1 + n) (long_tag (drop 1 m)) w b.1 in
          let q : 1 + p.0 ≡ w = p.2 in
          let t : get_or m 0 0 % 32 ≡ 31 = eqb-true _ _ b.0 in
          (omega arith, λ k. absurd (omega arith))
      | inr b ↦ let q : 1 ≡ w = some_same 1 w b.1 in (omega arith, λ k. sym q)
    ]
  where
    some_of : {A : Type 0} (b : Bool) (o : Option A) (y : A) → cond b o None ≡ Some y → o ≡ Some y
    some_of true o y k = k
    some_of false o y k = absurd (grind arith)

-- the first bytes of a list and the next, together
take_both : (xs ys : List ℕ) (n k : ℕ) → length xs ≡ n → k ≤ length ys → take (n + k) (xs ++ ys) ≡ xs ++ take k (drop n (xs ++ ys))
take_both xs ys n k e h =
    let l = length-append xs (take k ys) in
    let t = length-take-le k ys h in
    ap (λ (z : List ℕ). take (n + k) (xs ++ z)) (sym (take-append-drop k ys))
    ∙ ap (λ (z : List ℕ). take (n + k) z) (sym (append_assoc xs (take k ys) (drop k ys)))
    ∙ take_at (xs ++ take k ys) (drop k ys) (n + k) (omega arith)
    ∙ ap (λ (z : List ℕ). xs ++ take k z) (sym (drop_at xs ys n e))

coded_back : (x : ℕ) (xs : List ℕ) (s : Size) → SizeIs xs s → 1 + s.width + s.size ≤ length (x ∷ xs) → x % 32 < 31
    → Coded x (take s.size (drop (1 + s.width) (x ∷ xs))) (take (1 + s.width + s.size) (x ∷ xs))
coded_back x xs s z fits k =
    let c : List ℕ = take s.size (drop (1 + s.width) (x ∷ xs)) in
    let i : length (x ∷ z.bytes) ≡ 1 + s.width = omega (arith, z.long) in
    let whole : x ∷ xs ≡ (x ∷ z.bytes) ++ z.rest = ap (λ (l : List ℕ). x ∷ l) z.whole in
    let room : s.size ≤ length z.rest = omega (arith, z.long, ap length z.whole, length-append z.bytes z.rest) in
    let cut : take (1 + s.width + s.size) (x ∷ xs) ≡ x ∷ (z.bytes ++ c) =
    ap (λ (l : List ℕ). take (1 + s.width + s.size) l) whole
    ∙ take_both (x ∷ z.bytes) z.rest (1 + s.width) s.size i room
    ∙ ap (λ (l : List ℕ). x ∷ (z.bytes ++ take s.size (drop (1 + s.width) l))) (sym whole) in
    let long : length c ≡ s.size = length-take-le s.size (drop (1 + s.width) (x ∷ xs)) (rw length-drop (omega arith)) in
    let P : List ℕ → Type 0 = λ l. Coded x c l in
    let Q : ℕ → Type 0 = λ n. Sized n z.bytes in
    subst P (sym cut) (coded k (subst Q (sym long) z.sized))

known_back : (m : List ℕ) (w : ℕ) (s : Size) → w ≡ 1 → size_of (drop w m) ≡ Some s → w + s.width + s.size ≤ length m → get_or m 0 0 % 32 < 31
    → Coded (get_or m 0 0) (take s.size (drop (w + s.width) m)) (take (w + s.width + s.size) m)
known_back [] w s one e fits k = absurd (omega arith)
known_back (x ∷ xs) w s one e fits k =
    let P : ℕ → Type 0 = λ v. Coded x (take s.size (drop (v + s.width) (x ∷ xs))) (take (v + s.width + s.size) (x ∷ xs)) in
    let f : size_of xs ≡ Some s = ap (λ (v : ℕ). size_of (drop v (x ∷ xs))) (sym one) ∙ e in
    subst P (sym one) (coded_back x xs s (sized_back xs s f) (omega arith) k)

-- a part begins with an item, by its tag, header and content; known by its bytes where its tag is one byte
pub record ItemIs (p : Piece) (f : Front) : Type 0 where
  pub tag : ℕ
  pub content : List ℕ
  pub bytes : List ℕ
  pub rest : List ℕ
  pub header : ℕ
  pub known : tag % 32 < 31 → Coded tag content bytes
  pub whole : p.bytes ≡ bytes ++ rest
  pub item : f.item ≡ shape_of tag (record { at = p.at + header; bytes = content })
  pub behind : f.rest ≡ record { at = p.at + length bytes; bytes = rest }
  pub long : header + length content ≡ length bytes
  pub some : 0 < length bytes

-- an item, by the bytes of its tag and of its length
front_of : Piece → Head → Front
front_of p h = record { item = shape_of h.tag (front h.size (behind h.header p)); rest = behind (h.header + h.size) p }

item_made : (p : Piece) (f : Front) (w : ℕ) (s : Size) → 1 ≤ w → (get_or p.bytes 0 0 % 32 < 31 → w ≡ 1) → size_of (drop w p.bytes) ≡ Some s
    → w + s.width + s.size ≤ length p.bytes → front_of p (record { tag = get_or p.bytes 0 0; header = w + s.width; size = s.size }) ≡ f
    → ItemIs p f
unfolding front_of
item_made p f w s some one e fits is =
    let m : List ℕ = p.bytes in
    let room : s.size ≤ length (drop (w + s.width) m) = omega (arith, length-drop (w + s.width) m) in
    let lb : length (take (w + s.width + s.size) m) ≡ w + s.width + s.size = length-take-le (w + s.width + s.size) m fits in
    let lc : length (take s.size (drop (w + s.width) m)) ≡ s.size = length-take-le s.size (drop (w + s.width) m) room in
    let i : p.at + min (w + s.width) (length m) ≡ p.at + (w + s.width) = omega arith in
    let j : p.at + min (w + s.width + s.size) (length m) ≡ p.at + length (take (w + s.width + s.size) m) = omega arith in
    record {
      tag = get_or m 0 0;
      content = take s.size (drop (w + s.width) m);
      bytes = take (w + s.width + s.size) m;
      rest = drop (w + s.width + s.size) m;
      header = w + s.width;
      known = λ k. known_back m w s (one k) e fits k;
      whole = sym (take-append-drop (w + s.width + s.size) m);
      item = ap (λ (g : Front). g.item) (sym is) ∙ ap (λ (n : ℕ). shape_of (get_or m 0 0) (record { at = n; bytes = take s.size (drop (w + s.width) m) })) i;
      behind = ap (λ (g : Front). g.rest) (sym is) ∙ ap (λ (n : ℕ). record { at = n; bytes = drop (w + s.width + s.size) m }) j;
      long = omega arith;
      some = omega arith;
    }

item_read : (p : Piece) (f : Front) → item_of p ≡ Some f → (h : Head) × (head_of p.bytes ≡ Some h) × (front_of p h ≡ f)
unfolding front_of
item_read p f e = mapped_back (front_of p) (head_of p.bytes) f e

pub item_back : (p : Piece) (f : Front) → item_of p ≡ Some f → ItemIs p f
item_back p f e =
    let a = item_read p f e in
    let b = with_back (tag_width p.bytes) _ a.0 a.1 in
    let c = with_back (size_of (drop b.0 p.bytes)) _ a.0 b.2 in
    let d = some_if (leb (b.0 + c.0.width + c.0.size) (length p.bytes)) _ a.0 c.2 in
    let t = tag_back p.bytes b.0 b.1 in
    item_made p f b.0 c.0 t.0 t.1 c.1 (leb-true _ _ d.0) (ap (front_of p) d.1 ∙ a.2)

-- a part begins with an element
pub record Begun {S : Type 0} (One : S → S → List ℕ → Type 0) (s : S) (p : Piece) (x : Read S) : Type 0 where
  pub bytes : List ℕ
  pub rest : List ℕ
  pub one : One s x.value bytes
  pub whole : p.bytes ≡ bytes ++ rest
  pub long : length bytes ≡ x.size
  pub some : 0 < length bytes

positive : (n : ℕ) → (n ≡ 0 → ⊥) → 0 < n
positive zero f = absurd (f refl)
positive (suc n) f = omega arith

-- elements that were read are a chain, if each is one of it
module _ {S : Type 0} (element : Element S) (One : S → S → List ℕ → Type 0)
    (each : (s : S) (p : Piece) (x : Read S) → 0 < length p.bytes → element s p ≡ Ok x → Begun One s p x) where
  chain_none : (s u : S) (bs : List ℕ) → length bs ≡ 0 → ◌≡◌ {A = Outcome S} (Ok s) (Ok u) → Chain One s u bs
  chain_none s u bs z e =
      let P : S → Type 0 = λ t. Chain One s t [] in
      let Q : List ℕ → Type 0 = λ l. Chain One s u l in
      subst Q (sym (nil_from_length bs z)) (subst P (ok_same s u e) done)

  chain_one : (s u : S) (p : Piece) (x : Read S) → Begun One s p x → Chain One x.value u (drop x.size p.bytes) → Chain One s u p.bytes
  chain_one s u p x b c =
      let P : List ℕ → Type 0 = λ l. Chain One x.value u l in
      let Q : List ℕ → Type 0 = λ l. Chain One s u l in
      let e : drop x.size p.bytes ≡ b.rest = ap (λ (l : List ℕ). drop x.size l) b.whole ∙ drop_at b.bytes b.rest x.size b.long in
      subst Q (sym b.whole) (more b.one (subst P e c))

  chain_steps : (n : ℕ) (s u : S) (p : Piece) → length p.bytes ≤ n → elements element n s p ≡ Ok u → Chain One s u p.bytes
  chain_steps zero s u p h e = chain_none s u p.bytes (omega arith) e
  chain_steps (suc n) s u p h e =
      elim (cond_back (eqb (length p.bytes) 0) _ _ _ e) [
        | inl a ↦ chain_none s u p.bytes (eqb-true _ _ a.0) a.1
        | inr a ↦
            let f = eqb-false (length p.bytes) 0 a.0 in
            let o = onward_back (element s p) _ u a.1 in
            let b = each s p o.0 (positive (length p.bytes) f) o.1 in
            let l : length (drop o.0.size p.bytes) ≤ n = omega (arith, length-drop o.0.size p.bytes, b.long, b.some) in
            chain_one s u p o.0 b (chain_steps n o.0.value u (behind o.0.size p) l o.2)
      ]

  pub chain_back : (s u : S) (p : Piece) → elements_in element s p ≡ Ok u → Chain One s u p.bytes
  chain_back s u p e = chain_steps (length p.bytes) s u p (omega arith) e

pub integer_back : (most at n : ℕ) (c : List ℕ) → integer_in most at c ≡ Ok n → Number most n c
integer_back most at n c e =
    let a = need_back (shortest c) _ _ n e in
    let b = need_back (ltb (get_or c 0 0) 128 && leb (length c) 8) _ _ n a.1 in
    let d = need_back (leb (big c) most) _ _ n b.1 in
    let t = and_parts (ltb (get_or c 0 0) 128) (leb (length c) 8) b.0 in
    let P : ℕ → Type 0 = λ k. Number most k c in
    subst P (ok_same (big c) n d.1) (number a.0 (ltb-true _ _ t.0) (leb-true _ _ d.0))
