use Rattle.std.proofs.Common.{◌≡◌, ℕ, ◌+◌, ◌*◌, ◌≤◌, Bool, true, false, cond, eqb, leb, List, [], ◌∷◌, ◌++◌, length, Some, None, Ok, Option, sym, refl, ap, ◌∙◌, subst, inl, inr, arith}
use Rattle.std.proofs.lemmas.List.{length-append}
use Rattle.std.proofs.lemmas.Bool.{eq-eqb, eqb-true, le-leb, leb-true}
use Rattle.std.proofs.lemmas.Bool.Decides.{nat_tests}
use Rattle.refusals.specs.Reading.{onward, need, or_refuse}
use Rattle.refusals.specs.declared.Refusal.TheVariants.{Malformed, OutOfLimits}
use Rattle.refusals.proofs.Outcomes.{need_back, need_true, or_refuse_back, cond_back, some_same, ok_same}
use Rattle.claims.proofs.Kept.{some_if}
use Rattle.parts.specs.Parts.{Piece, after, before}
use Rattle.parts.specs.declared.kinds.Read.{Read}
use Rattle.parts.proofs.Cuts.{before_after}
use Rattle.cbor.specs.declared.kinds.Head.{Head}
use Rattle.cbor.specs.Heads.{head_of}
use Rattle.cbor.specs.Items.{Shape, by_major, with_head, is_unsigned, is_array, is_map, is_tag, is_truth}
use Rattle.cbor.specs.Scalars.{Rule, number_at, number_to, truth_at, array_at, map_at, array_of, tag_at}
use Rattle.cbor.specs.Encodes.{Width, one, two, four, eight, Headed, inside, behind, Number, number, Truth, no, yes, Made, made, Such}
use Rattle.cbor.specs.Reads.{Begins, Reads}
use Rattle.cbor.proofs.Written.{head_written}
use Rattle.cbor.proofs.Back.{HeadIs, head_back}
use Rattle.cbor.proofs.Joins.{reads_as, reads_same, reads_such, reads_made}

-- the rules of items read the bytes of their kind exactly

-- an item by its kind, of what was found
abbrev pub held : {A : Type 0} → (Shape → Option A) → Option Head → Rule A
held kind o p =
    or_refuse (with_head o (λ h. by_major h p)) (Malformed p.at) (λ f.
    or_refuse (kind f.item) (Malformed p.at) (λ x.
    Ok (record { value = x; size = before p f.rest })))

-- a head of a major type
abbrev pub headed : ℕ → Option Head → Rule ℕ
headed major o p =
    or_refuse o (Malformed p.at) (λ h.
    need (eqb h.major major) (Malformed p.at)
    (Ok (record { value = h.argument; size = before p (after h.size p) })))

abbrev head_at : ℕ → Rule ℕ
head_at major p = headed major (head_of p.bytes) p

pub head_fits : (m : List ℕ) (h : Head) (b : HeadIs m h) → length m ≡ h.size + length b.rest
head_fits m h b = ap length b.whole ∙ length-append b.bytes b.rest ∙ ap (λ (n : ℕ). n + length b.rest) b.long

reads_head : (major : ℕ) → Reads (head_at major) (Headed major)
reads_head major = record { written = forth; read = back }
  where
    forth : (n : ℕ) (bs rest : List ℕ) (at : ℕ) → Headed major n bs → head_at major (record { at = at; bytes = bs ++ rest }) ≡ Ok (record { value = n; size = length bs })
    forth n bs rest at k =
        let p : Piece = record { at = at; bytes = bs ++ rest } in
        ap (λ (o : Option Head). headed major o p) (head_written major n bs rest k)
        ∙ need_true _ _ _ (eq-eqb major major refl)
        ∙ ap (λ (i : ℕ). Ok (record { value = n; size = i })) (before_after p (length bs) (omega (arith, length-append bs rest)))

    back : (p : Piece) (x : Read ℕ) → head_at major p ≡ Ok x → Begins (Headed major) p x
    back p x e =
        let o = or_refuse_back (head_of p.bytes) _ _ x e in
        let n = need_back (eqb o.0.major major) _ _ x o.2 in
        let b = head_back p.bytes o.0 o.1 in
        let P : Read ℕ → Type 0 = λ z. Begins (Headed major) p z in
        let Q : ℕ → Type 0 = λ i. Headed i o.0.argument b.bytes in
        subst P (ok_same _ x n.1) (record {
          bytes = b.bytes;
          rest = b.rest;
          kind = subst Q (eqb-true _ _ n.0) b.headed;
          whole = b.whole;
          long = b.long ∙ sym (before_after p o.0.size (omega (arith, head_fits p.bytes o.0 b)));
        })

-- each item that is its head alone is read by its head

number_held : (o : Option Head) (p : Piece) → held is_unsigned o p ≡ headed 0 o p
number_held o p = grind (arith, nat_tests)

array_held : (o : Option Head) (p : Piece) → held is_array o p ≡ headed 4 o p
array_held o p = grind (arith, nat_tests)

map_held : (o : Option Head) (p : Piece) → held is_map o p ≡ headed 5 o p
map_held o p = grind (arith, nat_tests)

tag_held : (o : Option Head) (p : Piece) → held is_tag o p ≡ headed 6 o p
tag_held o p = grind (arith, nat_tests)

pub reads_number : Reads number_at (Headed 0)
reads_number = reads_same (reads_head 0) number_at (λ p. number_held (head_of p.bytes) p)

pub reads_array_head : Reads array_at (Headed 4)
reads_array_head = reads_same (reads_head 4) array_at (λ p. array_held (head_of p.bytes) p)

pub reads_map_head : Reads map_at (Headed 5)
reads_map_head = reads_same (reads_head 5) map_at (λ p. map_held (head_of p.bytes) p)

pub reads_tag : Reads tag_at (Headed 6)
reads_tag = reads_same (reads_head 6) tag_at (λ p. tag_held (head_of p.bytes) p)

pub reads_number_to : (most : ℕ) → Reads (number_to most) (Number most)
reads_number_to most = reads_as (reads_such reads_number (λ n. leb n most) (λ p. OutOfLimits p.at)) (Number most) forth back
  where
    forth : (n : ℕ) (bs : List ℕ) → Number most n bs → Such (Headed 0) (λ k. leb k most) n bs
    forth n bs (number k l) = (k, le-leb n most l)

    back : (n : ℕ) (bs : List ℕ) → Such (Headed 0) (λ k. leb k most) n bs → Number most n bs
    back n bs k = number k.0 (leb-true n most k.1)

-- the head of an array of so many elements
pub reads_array_of : (count : ℕ) → Reads (array_of count) (Such (Headed 4) (λ k. eqb k count))
reads_array_of count = reads_such reads_array_head (λ k. eqb k count) (λ p. Malformed p.at)

-- true and false

-- which of the simple values are items
abbrev truth_of : ℕ → Option Bool
truth_of n = cond (eqb n 20) (Some false) (cond (eqb n 21) (Some true) None)

abbrev truth_by : Option Head → Rule Bool
truth_by o p = onward (headed 7 o p) (λ n. or_refuse (truth_of n.value) (Malformed p.at) (λ b. Ok (record { value = b; size = n.size })))

truth_held : (o : Option Head) (p : Piece) → held is_truth o p ≡ truth_by o p
truth_held o p = grind (arith, nat_tests)

-- a small number stands inside its head
width_large : {info w least : ℕ} → Width info w least → 24 ≤ least
width_large one = omega arith
width_large two = omega arith
width_large four = omega arith
width_large eight = omega arith

truth_small : (n : ℕ) (b : Bool) (bs : List ℕ) → Headed 7 n bs → truth_of n ≡ Some b → Truth b bs
truth_small n b _ (inside l) e =
    elim (cond_back (eqb n 20) _ _ _ e) [
      | inl a ↦ is n 20 b no (eqb-true _ _ a.0) (some_same _ _ a.1)
      | inr a ↦ let s = some_if (eqb n 21) true b a.1 in is n 21 b yes (eqb-true _ _ s.0) s.1
    ]
  where
    is : (m k : ℕ) {c : Bool} (d : Bool) → Truth c ((7 * 32 + k) ∷ []) → m ≡ k → c ≡ d → Truth d ((7 * 32 + m) ∷ [])
    is m k d t i j = let P : ℕ → Type 0 = λ v. Truth d ((7 * 32 + v) ∷ []) in let Q : Bool → Type 0 = λ v. Truth v ((7 * 32 + k) ∷ []) in subst P (sym i) (subst Q j t)
truth_small n b _ (behind ds w l v large) e =
    let h : 24 ≤ n = omega (arith, width_large w) in
    absurd (grind (arith, nat_tests))

pub reads_truth : Reads truth_at Truth
reads_truth =
    reads_as (reads_same (reads_made (reads_head 7) truth_of (λ p. Malformed p.at)) truth_at (λ p. truth_held (head_of p.bytes) p)) Truth forth back
  where
    forth : (b : Bool) (bs : List ℕ) → Truth b bs → Made (Headed 7) truth_of b bs
    forth _ _ no = made {x = 20} (inside (omega arith)) refl
    forth _ _ yes = made {x = 21} (inside (omega arith)) refl

    back : (b : Bool) (bs : List ℕ) → Made (Headed 7) truth_of b bs → Truth b bs
    back b bs (made {x = n} k e) = truth_small n b bs k e
