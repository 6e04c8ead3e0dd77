use Rattle.std.proofs.Common.{◌≡◌, ℕ, ◌+◌, ◌≤◌, Bool, true, false, eqb, ◌⊎◌, List, length, Some, None, Ok, Err, Option, sym, refl, ap, ◌∙◌, subst, inl, inr, arith}
use Rattle.std.proofs.lemmas.List.{length-append, length-drop}
use Rattle.std.proofs.lemmas.Bool.{eq-eqb, eqb-true}
use Rattle.std.proofs.lemmas.Bool.Decides.{nat_tests}
use Rattle.refusals.specs.Reading.{Outcome, onward, keeps, need, or_refuse}
use Rattle.refusals.specs.declared.Refusal.{Refusal}
use Rattle.refusals.specs.declared.Refusal.TheVariants.{Malformed, OutOfLimits}
use Rattle.claims.specs.Bytes.{kept_from}
use Rattle.parts.specs.Parts.{Piece, after, before}
use Rattle.parts.specs.declared.kinds.Read.{Read}
use Rattle.cbor.specs.declared.kinds.Head.{Head}
use Rattle.cbor.specs.Heads.{head_of}
use Rattle.cbor.specs.Items.{Shape, Front, by_major, with_head, item_of, is_bytes}
use Rattle.cbor.specs.Scalars.{Rule, item_as, tag_at, tagged_bytes}
use Rattle.cbor.specs.Encodes.{Headed, String, Tagged, tagged, Then, both, Such}
use Rattle.cbor.specs.Reads.{Begins, Reads}
use Rattle.cbor.proofs.Joins.{Agree, agree_same, agree_refused, reads_as, reads_like, reads_such, reads_behind, goes}
use Rattle.cbor.proofs.Rules.{reads_tag}
use Rattle.cbor.proofs.Strings.{reads_bytes_at}

-- a tag and the item in it are read exactly, though they are one item with one place

rest_after : (o : Option Head) (p : Piece) (f : Front) → with_head o (λ h. by_major h p) ≡ Some f → (n : ℕ) × (f.rest ≡ after n p)
rest_after None p f e = absurd (grind arith)
rest_after (Some h) p f e = elim (by_rest h p f e) [
  | inl k ↦ (h.size, k)
  | inr k ↦ (h.size + h.argument, k)
]
  where
    by_rest : (h : Head) (p : Piece) (f : Front) → by_major h p ≡ Some f → (f.rest ≡ after h.size p) ⊎ (f.rest ≡ after (h.size + h.argument) p)
    by_rest h p f e = grind (arith, nat_tests)

-- an item has bytes behind it that stood in its part
pub rest_fits : (p : Piece) (f : Front) → item_of p ≡ Some f → length f.rest.bytes ≤ length p.bytes
rest_fits p f e =
    let r = rest_after (head_of p.bytes) p f e in
    omega (arith, ap (λ (q : Piece). length q.bytes) r.1, length-drop r.0 p.bytes)

-- what stands before the rest of what is behind n bytes
pub before_behind : (p rest : Piece) (n : ℕ) → n ≤ length p.bytes → length rest.bytes ≤ length (after n p).bytes → n + before (after n p) rest ≡ before p rest
before_behind p rest n h k = let l = length-drop n p.bytes in omega arith

size_fits : {A : Type 0} {Kind : A → List ℕ → Type 0} (p : Piece) (x : Read A) → Begins Kind p x → x.size ≤ length p.bytes
size_fits p x b = omega (arith, b.long, ap length b.whole, length-append b.bytes b.rest)

-- something read with its size, and the size with what stands before it
abbrev pub sized : {A : Type 0} → A → ℕ → Read A
sized x n = record { value = x; size = n }

abbrev pub further : {A : Type 0} → ℕ → Read A → Read A
further k y = record { value = y.value; size = k + y.size }

-- the item behind a tag that passes a test, by its kind, with what its value goes on to: all refused at the tag
module _ {C B : Type 0} (test : ℕ → Bool) (e : Piece → Refusal) (kind : Shape → Option C) (go : ℕ → Piece → C → ℕ → Outcome (Read B)) where
  abbrev pub in_tag : Rule B
  in_tag p =
      onward (tag_at p) (λ t.
      need (test t.value) (e p)
      (or_refuse (item_of (after t.size p)) (e p) (λ f.
      or_refuse (kind f.item) (e p) (λ c.
      go t.value p c (before p f.rest)))))

  -- the same by a rule for the item
  abbrev inner : ℕ → Piece → Rule B
  inner t p q = onward (item_as kind q) (λ c. go t p c.value c.size)

  -- what goes on has the size that it is given
  abbrev pub Sizes : Type 0
  Sizes = (t : ℕ) (p : Piece) (c : C) (k n : ℕ) → keeps (go t p c n) (further k) ≡ go t p c (k + n)

  module _ (sizes : Sizes) where
    kind_agrees : (t : Read ℕ) (p : Piece) (f : Front) (o : Option C) → t.size + before (after t.size p) f.rest ≡ before p f.rest
        → Agree (or_refuse o (e p) (λ c. go t.value p c (before p f.rest)))
        (keeps (onward (or_refuse o (Malformed (after t.size p).at) (λ x. Ok (sized x (before (after t.size p) f.rest)))) (λ c. go t.value p c.value c.size)) (further t.size))
    kind_agrees t p f None s = agree_refused (e p) (Malformed (after t.size p).at)
    kind_agrees t p f (Some c) s =
        agree_same _ _ (ap (λ (n : ℕ). go t.value p c n) (sym s) ∙ sym (sizes t.value p c t.size (before (after t.size p) f.rest)))

    item_agrees : (t : Read ℕ) (p : Piece) (o : Option Front) → t.size ≤ length p.bytes → item_of (after t.size p) ≡ o
        → Agree (or_refuse o (e p) (λ f. or_refuse (kind f.item) (e p) (λ c. go t.value p c (before p f.rest))))
        (keeps (onward (or_refuse o (Malformed (after t.size p).at) (λ f. or_refuse (kind f.item) (Malformed (after t.size p).at) (λ x. Ok (sized x (before (after t.size p) f.rest))))) (λ c. go t.value p c.value c.size)) (further t.size))
    item_agrees t p None h is = agree_refused (e p) (Malformed (after t.size p).at)
    item_agrees t p (Some f) h is = kind_agrees t p f (kind f.item) (before_behind p f.rest t.size h (rest_fits (after t.size p) f is))

    test_agrees : (t : Read ℕ) (p : Piece) (b : Bool) → t.size ≤ length p.bytes
        → Agree (need b (e p) (or_refuse (item_of (after t.size p)) (e p) (λ f. or_refuse (kind f.item) (e p) (λ c. go t.value p c (before p f.rest)))))
        (onward (need b (e p) (Ok t)) (goes inner p))
    test_agrees t p true h = item_agrees t p (item_of (after t.size p)) h refl
    test_agrees t p false h = agree_refused (e p) (e p)

    tag_agrees : (p : Piece) (r : Outcome (Read ℕ)) → tag_at p ≡ r
        → Agree (onward r (λ t. need (test t.value) (e p) (or_refuse (item_of (after t.size p)) (e p) (λ f. or_refuse (kind f.item) (e p) (λ c. go t.value p c (before p f.rest))))))
        (onward (onward r (λ x. need (test x.value) (e p) (Ok x))) (goes inner p))
    tag_agrees p (Ok t) is = test_agrees t p (test t.value) (size_fits p t (reads_tag.read p t is))
    tag_agrees p (Err x) is = agree_refused x x

    pub reads_in_tag : (Inner : ℕ → B → List ℕ → Type 0) → ((t : ℕ) (p : Piece) → Reads (λ q. onward (item_as kind q) (λ c. go t p c.value c.size)) (Inner t))
        → Reads in_tag (Then (Such (Headed 6) test) Inner)
    reads_in_tag Inner each = reads_like (reads_behind (reads_such reads_tag test e) inner Inner each) in_tag (λ p. tag_agrees p (tag_at p) refl)

-- one tag around a kind
pub reads_tagged : {A : Type 0} {rule : Rule A} {Inner : A → List ℕ → Type 0} (tag : ℕ) → Reads rule (Then (Such (Headed 6) (λ t. eqb t tag)) (λ _. Inner)) → Reads rule (Tagged tag Inner)
reads_tagged {A} {rule} {Inner} tag reads = reads_as reads (Tagged tag Inner) forth back
  where
    forth : (x : A) (bs : List ℕ) → Tagged tag Inner x bs → Then (Such (Headed 6) (λ t. eqb t tag)) (λ _. Inner) x bs
    forth x _ (tagged h k) = both (h, eq-eqb tag tag refl) k

    back : (x : A) (bs : List ℕ) → Then (Such (Headed 6) (λ t. eqb t tag)) (λ _. Inner) x bs → Tagged tag Inner x bs
    back x _ (both {a = a} h k) = tagged (subst (λ (t : ℕ). Headed 6 t a) (eqb-true _ tag h.1) h.0) k

-- what goes on has the size that it is given, where it can be put to use or passes a test

pub sizes_made : {A : Type 0} (o : Option A) (e : Refusal) (k n : ℕ)
    → keeps (or_refuse o e (λ b. Ok (sized b n))) (further k) ≡ or_refuse o e (λ b. Ok (sized b (k + n)))
sizes_made None e k n = refl
sizes_made (Some x) e k n = refl

pub sizes_such : {A : Type 0} (b : Bool) (e : Refusal) (x : A) (k n : ℕ) → keeps (need b e (Ok (sized x n))) (further k) ≡ need b e (Ok (sized x (k + n)))
sizes_such true e x k n = refl
sizes_such false e x k n = refl

pub reads_tagged_bytes : (tag N least : ℕ) → Reads (tagged_bytes tag N least) (Tagged tag (String 2 N least))
reads_tagged_bytes tag N least =
    reads_tagged tag
    (reads_in_tag (λ t. eqb t tag) (λ p. Malformed p.at) is_bytes (λ t p c n. or_refuse (kept_from N least c.bytes) (OutOfLimits p.at) (λ b. Ok (sized b n)))
    (λ t p c k n. sizes_made (kept_from N least c.bytes) (OutOfLimits p.at) k n) (λ _. String 2 N least) (λ t p. reads_bytes_at N least (λ _. OutOfLimits p.at)))
