use Rattle.std.proofs.Common.{◌≡◌, ℕ, zero, suc, ◌+◌, ◌-◌, ◌*◌, ◌%◌, ◌^◌, ◌<◌, ◌≤◌, true, cond, ltb, List, [], ◌∷◌, ◌++◌, length, get_or, take, Some, Ok, sym, refl, ap, ◌∙◌, inl, inr, append_assoc, arith}
use Rattle.std.proofs.lemmas.List.{length-append, take_at, get_or_append_left}
use Rattle.std.proofs.lemmas.Bool.{and_from, cond-true, cond-false, lt-ltb, le-ltb, le-leb, ne_eqb, cases_lt}
use Rattle.std.proofs.lemmas.Bool.Decides.{nat_tests}
use Rattle.der.specs.declared.kinds.Head.{Head}
use Rattle.parts.specs.declared.kinds.Read.{Read}
use Rattle.refusals.specs.Reading.{Outcome, onward}
use Rattle.parts.specs.Numbers.{big, big_after}
use Rattle.der.specs.Heads.{long_size, size_of, head_of, tag_width}
use Rattle.parts.specs.Parts.{Piece, front, after as behind}
use Rattle.der.specs.Contents.{shortest, integer_in}
use Rattle.parts.specs.Holders.{Element, elements, elements_in}
use Rattle.der.specs.Items.{shape_of, item_of}
use Rattle.der.specs.Encodes.{Sized, inside, after, Coded, coded, Chain, done, more, Number, number}
use Rattle.parts.proofs.Cuts.{behind_at, front_at}
use Rattle.parts.proofs.Steps.{elements_more, elements_none}
use Rattle.refusals.proofs.Outcomes.{need_true}

-- what was encoded is read

long_forth : (n : ℕ) (ds rest : List ℕ) → 1 ≤ length ds → length ds ≤ 8 → 1 ≤ get_or ds 0 0 → big ds ≡ n → 128 ≤ n
    → long_size (length ds) (ds ++ rest) ≡ Some (record { width = 1 + length ds; size = n })
long_forth n ds rest some few lead value large =
    let l = length-append ds rest in
    let t : take (length ds) (ds ++ rest) ≡ ds = take_at ds rest (length ds) refl in
    let g : get_or (ds ++ rest) 0 0 ≡ get_or ds 0 0 = get_or_append_left ds rest 0 0 (omega arith) in
    let b : big (take (length ds) (ds ++ rest)) ≡ n = ap big t ∙ value in
    cond-true _ _ _ (and_from _ _ (and_from _ _ (and_from _ _ (and_from _ _
    (le-leb 1 (length ds) some) (le-leb (length ds) 8 few)) (le-leb (length ds) (length (ds ++ rest)) (omega arith)))
    (le-leb 1 (get_or (ds ++ rest) 0 0) (omega arith))) (le-leb 128 (big (take (length ds) (ds ++ rest))) (omega arith)))
    ∙ ap (λ (i : ℕ). Some (record { width = 1 + length ds; size = i })) b

-- a length, by its first byte
pub size_first : (x : ℕ) (xs : List ℕ) → size_of (x ∷ xs) ≡ cond (ltb x 128) (Some (record { width = 1; size = x })) (long_size (x - 128) xs)
size_first x xs = cond-true _ _ _ (lt-ltb 0 (length (x ∷ xs)) (omega arith))

pub sized_forth : (n : ℕ) (h rest : List ℕ) → Sized n h → size_of (h ++ rest) ≡ Some (record { width = length h; size = n })
sized_forth n _ rest (inside l) = size_first n rest ∙ cond-true _ _ _ (lt-ltb n 128 l)
sized_forth n _ rest (after ds some few lead value large) =
    let w : 128 + length ds - 128 ≡ length ds = omega arith in
    size_first (128 + length ds) (ds ++ rest)
    ∙ cond-false _ _ _ (le-ltb (128 + length ds) 128 (omega arith))
    ∙ ap (λ (k : ℕ). long_size k (ds ++ rest)) w
    ∙ long_forth n ds rest some few lead value large
    ∙ ap (λ (k : ℕ). Some (record { width = k; size = n })) (omega arith)

tag_forth : (tag : ℕ) (xs : List ℕ) → tag % 32 < 31 → tag_width (tag ∷ xs) ≡ Some 1
tag_forth tag xs k =
    cond-true _ _ _ (lt-ltb 0 (length (tag ∷ xs)) (omega arith))
    ∙ cond-false _ _ _ (ne_eqb (tag % 32) 31 (λ e. omega arith))

head_forth : (tag : ℕ) (h c rest : List ℕ) → tag % 32 < 31 → Sized (length c) h
    → head_of (tag ∷ (h ++ (c ++ rest))) ≡ Some (record { tag = tag; header = 1 + length h; size = length c })
head_forth tag h c rest k z =
    let l = length-append h (c ++ rest) in
    let m = length-append c rest in
    rw (tag_forth tag (h ++ (c ++ rest)) k, sized_forth (length c) h (c ++ rest) z)
    (cond-true _ _ _ (le-leb (1 + length h + length c) (length (tag ∷ (h ++ (c ++ rest)))) (omega arith)))

item_cut : (at : ℕ) (m : List ℕ) (h : Head) → head_of m ≡ Some h
    → item_of (record { at = at; bytes = m }) ≡ Some (record { item = shape_of h.tag (front h.size (behind h.header (record { at = at; bytes = m }))); rest = behind (h.header + h.size) (record { at = at; bytes = m }) })
item_cut at m h e = rw e

-- an item is found at the beginning of a part, and its content behind a header
pub record Found (tag : ℕ) (c bs rest : List ℕ) (at : ℕ) : Type 0 where
  pub header : ℕ
  pub long : header + length c ≡ length bs
  pub some : 0 < header
  pub reads : item_of (record { at = at; bytes = bs ++ rest })
      ≡ Some (record { item = shape_of tag (record { at = at + header; bytes = c }); rest = record { at = at + length bs; bytes = rest } })

pub item_forth : (tag : ℕ) (c bs rest : List ℕ) (at : ℕ) → Coded tag c bs → Found tag c bs rest at
item_forth tag c _ rest at (coded {h = h} k z) =
    let bs : List ℕ = tag ∷ (h ++ c) in
    let m : List ℕ = tag ∷ (h ++ (c ++ rest)) in
    let whole : bs ++ rest ≡ m = ap (λ (l : List ℕ). tag ∷ l) (append_assoc h c rest) in
    let n = length-append h c in
    let i : length (tag ∷ h) ≡ 1 + length h = omega arith in
    let j : length bs ≡ 1 + length h + length c = omega arith in
    let last : behind (1 + length h + length c) (record { at = at; bytes = m }) ≡ record { at = at + length bs; bytes = rest } =
    ap (λ (l : List ℕ). behind (1 + length h + length c) (record { at = at; bytes = l })) (sym whole)
    ∙ behind_at bs rest at (1 + length h + length c) j
    ∙ ap (λ (o : ℕ). record { at = at + o; bytes = rest }) (sym j) in
    record {
      header = 1 + length h;
      long = sym j;
      some = omega arith;
      reads =
          ap (λ (l : List ℕ). item_of (record { at = at; bytes = l })) whole
          ∙ item_cut at m (record { tag = tag; header = 1 + length h; size = length c }) (head_forth tag h c rest k z)
          ∙ ap (λ (q : Piece). Some (record { item = shape_of tag q; rest = behind (1 + length h + length c) (record { at = at; bytes = m }) })) (front_at (tag ∷ h) c rest at (1 + length h) i)
          ∙ ap (λ (q : Piece). Some (record { item = shape_of tag (record { at = at + (1 + length h); bytes = c }); rest = q })) last;
    }

-- a chain of elements is read, if each element is
module _ {S : Type 0} (element : Element S) (One : S → S → List ℕ → Type 0)
    (each : (s t : S) (v rest : List ℕ) (at : ℕ) → One s t v
    → (0 < length v) × (element s (record { at = at; bytes = v ++ rest }) ≡ Ok (record { value = t; size = length v }))) where
  chain_steps : (n : ℕ) (s u : S) (bs : List ℕ) (at : ℕ) → Chain One s u bs → length bs ≤ n → elements element n s (record { at = at; bytes = bs }) ≡ Ok u
  chain_steps n s _ _ at done h = elements_none element n s (record { at = at; bytes = [] }) refl
  chain_steps zero s u _ at (more {t = t} {v = v} {bs = b} o rest) h = absurd (omega (arith, (each s t v b at o).0, length-append v b))
  chain_steps (suc n) s u _ at (more {t = t} {v = v} {bs = b} o rest) h =
      let l = length-append v b in
      let p = each s t v b at o in
      elements_more element n s (record { at = at; bytes = v ++ b }) (omega (arith, p.0))
      ∙ ap (λ (r : Outcome (Read S)). onward r (λ x. elements element n x.value (behind x.size (record { at = at; bytes = v ++ b })))) p.1
      ∙ ap (λ (q : Piece). elements element n t q) (behind_at v b at (length v) refl)
      ∙ chain_steps n t u b (at + length v) rest (omega (arith, p.0))

  pub chain_forth : (s u : S) (bs : List ℕ) (at : ℕ) → Chain One s u bs → elements_in element s (record { at = at; bytes = bs }) ≡ Ok u
  chain_forth s u bs at c = chain_steps (length bs) s u bs at c (omega arith)

-- m with k bytes of 0 behind it
scale : ℕ → ℕ → ℕ
scale zero m = m
scale (suc k) m = scale k (m * 256)

-- what bytes write is at least as large as with less before them, and fewer of them
least : (k m n : ℕ) (xs : List ℕ) → m ≤ n → k ≤ length xs → scale k m ≤ big_after n xs
unfolding scale
least zero m n [] h l = h
least zero m n (x ∷ xs) h l = least zero m (n * 256 + x) xs (omega arith) (omega arith)
least (suc k) m n [] h l = absurd (omega arith)
least (suc k) m n (x ∷ xs) h l = least k (m * 256) (n * 256 + x) xs (omega arith) (omega arith)

-- the first two bytes of an INTEGER are none to spare
lead : (c : List ℕ) → shortest c ≡ true → 2 ≤ length c → 128 ≤ get_or c 0 0 * 256 + get_or c 1 0
lead c e h = grind (arith, nat_tests)

-- nine bytes and more are too large
few : (c : List ℕ) → shortest c ≡ true → 9 ≤ length c → 2 ^ 63 ≤ big c
unfolding scale
few [] e h = absurd (omega arith)
few (x ∷ []) e h = absurd (omega arith)
few (x ∷ y ∷ xs) e h =
    let l : 128 ≤ x * 256 + y = lead (x ∷ y ∷ xs) e (omega arith) in
    least 7 128 ((0 * 256 + x) * 256 + y) xs (omega arith) (omega arith)

pub integer_forth : (most at n : ℕ) (c : List ℕ) → most < 2 ^ 63 → Number most n c → integer_in most at c ≡ Ok n
integer_forth most at _ c bound (number short clear small) =
    let eight : length c ≤ 8 = elim (cases_lt 8 (length c)) [
      | inl l ↦ absurd (omega (arith, few c short l))
      | inr l ↦ l
    ] in
    need_true _ _ _ short
    ∙ need_true _ _ _ (and_from _ _ (lt-ltb (get_or c 0 0) 128 clear) (le-leb (length c) 8 eight))
    ∙ need_true _ _ _ (le-leb (big c) most small)
