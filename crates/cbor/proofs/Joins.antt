use Rattle.std.proofs.Common.{◌≡◌, ℕ, ◌+◌, Bool, true, List, ◌++◌, length, drop, Ok, Err, Option, sym, refl, ap, ◌∙◌, subst, append_assoc, arith}
use Rattle.std.proofs.lemmas.List.{length-append, drop_at}
use Rattle.refusals.specs.Reading.{Outcome, onward, keeps, need, or_refuse}
use Rattle.refusals.specs.declared.Refusal.{Refusal}
use Rattle.refusals.proofs.Outcomes.{onward_back, keeps_back, need_back, need_true, or_refuse_back, ok_same}
use Rattle.parts.specs.Parts.{Piece, after}
use Rattle.parts.specs.declared.kinds.Read.{Read}
use Rattle.parts.proofs.Cuts.{behind_at}
use Rattle.cbor.specs.Scalars.{Rule, stores, then}
use Rattle.cbor.specs.Encodes.{Then, both, Made, made, Stored, stored, Such}
use Rattle.cbor.specs.Reads.{Begins, Reads}

-- rules made of rules that read a kind exactly

-- bytes of one kind are bytes of another, of as many bytes
pub begins_as : {A B : Type 0} (Kind : A → List ℕ → Type 0) (Other : B → List ℕ → Type 0) (p : Piece) (x : Read A) (y : Read B)
    → ((bs : List ℕ) → Kind x.value bs → Other y.value bs) → x.size ≡ y.size → Begins Kind p x → Begins Other p y
begins_as Kind Other p x y to e b = record { bytes = b.bytes; rest = b.rest; kind = to b.bytes b.kind; whole = b.whole; long = b.long ∙ e }

-- bytes of two kinds, one behind the other
pub begins_both : {A B C : Type 0} (First : A → List ℕ → Type 0) (Second : B → List ℕ → Type 0) (Whole : C → List ℕ → Type 0) (p : Piece) (x : Read A) (y : Read B) (z : Read C)
    → ((a b : List ℕ) → First x.value a → Second y.value b → Whole z.value (a ++ b)) → x.size + y.size ≡ z.size
    → Begins First p x → Begins Second (after x.size p) y → Begins Whole p z
begins_both First Second Whole p x y z join e a b =
    let d : a.rest ≡ b.bytes ++ b.rest
    = sym (drop_at a.bytes a.rest x.size a.long) ∙ ap (λ (l : List ℕ). drop x.size l) (sym a.whole) ∙ b.whole in
    record {
      bytes = a.bytes ++ b.bytes;
      rest = b.rest;
      kind = join a.bytes b.bytes a.kind b.kind;
      whole = a.whole ∙ ap (λ (l : List ℕ). a.bytes ++ l) d ∙ sym (append_assoc a.bytes b.bytes b.rest);
      long = rw length-append (omega (arith, a.long, b.long));
    }

-- what stands behind the first of two
pub behind_first : (a b rest : List ℕ) (at : ℕ) → after (length a) (record { at = at; bytes = (a ++ b) ++ rest }) ≡ record { at = at + length a; bytes = b ++ rest }
behind_first a b rest at =
    ap (λ (m : List ℕ). after (length a) (record { at = at; bytes = m })) (append_assoc a b rest) ∙ behind_at a (b ++ rest) at (length a) refl

-- what is read at the beginning of two is the first
pub first_written : {A : Type 0} {rule : Rule A} {Kind : A → List ℕ → Type 0} → Reads rule Kind → (x : A) (a b rest : List ℕ) (at : ℕ) → Kind x a
    → rule (record { at = at; bytes = (a ++ b) ++ rest }) ≡ Ok (record { value = x; size = length a })
first_written {rule = rule} reads x a b rest at k = ap (λ (m : List ℕ). rule (record { at = at; bytes = m })) (append_assoc a b rest) ∙ reads.written x a (b ++ rest) at k

-- what was read, put to use
abbrev puts : {A B : Type 0} → (A → B) → Read A → Read B
puts f x = record { value = f x.value; size = x.size }

-- what was read, put to use where it can be
abbrev turns : {A B : Type 0} → (A → Option B) → (Piece → Refusal) → Piece → Read A → Outcome (Read B)
turns f e p x = or_refuse (f x.value) (e p) (λ y. Ok (record { value = y; size = x.size }))

-- the second rule, behind what the first one read
abbrev pub goes : {A B : Type 0} → (A → Piece → Rule B) → Piece → Read A → Outcome (Read B)
goes second p x = keeps (second x.value p (after x.size p)) (λ y. record { value = y.value; size = x.size + y.size })

-- two outcomes find the same, though they may refuse for different reasons
abbrev pub Agree : {A : Type 0} → Outcome A → Outcome A → Type 0
Agree {A} r s = (y : A) → (r ≡ Ok y → s ≡ Ok y) × (s ≡ Ok y → r ≡ Ok y)

pub agree_same : {A : Type 0} (r s : Outcome A) → r ≡ s → Agree r s
agree_same r s e y = (λ k. sym e ∙ k, λ k. e ∙ k)

pub agree_refused : {A : Type 0} (a b : Refusal) → Agree {A = A} (Err a) (Err b)
agree_refused a b y = (λ k. absurd (grind arith), λ k. absurd (grind arith))

module _ {A : Type 0} {rule : Rule A} {Kind : A → List ℕ → Type 0} (reads : Reads rule Kind) where
  -- the same bytes, said in another way
  pub reads_as : (Other : A → List ℕ → Type 0) → ((x : A) (bs : List ℕ) → Other x bs → Kind x bs) → ((x : A) (bs : List ℕ) → Kind x bs → Other x bs) → Reads rule Other
  reads_as Other to from = record {
    written = λ x bs rest at k. reads.written x bs rest at (to x bs k);
    read = λ p x e. begins_as Kind Other p x x (from x.value) refl (reads.read p x e);
  }

  -- the same rule, said in another way
  pub reads_same : (other : Rule A) → ((p : Piece) → other p ≡ rule p) → Reads other Kind
  reads_same other same = record {
    written = λ x bs rest at k. same _ ∙ reads.written x bs rest at k;
    read = λ p x e. reads.read p x (sym (same p) ∙ e);
  }

  pub reads_like : (other : Rule A) → ((p : Piece) → Agree (other p) (rule p)) → Reads other Kind
  reads_like other agree = record {
    written = λ x bs rest at k. (agree (record { at = at; bytes = bs ++ rest }) (record { value = x; size = length bs })).1 (reads.written x bs rest at k);
    read = λ p x e. reads.read p x ((agree p x).0 e);
  }

  -- what was read goes on to something of as many bytes
  pub reads_by : {B : Type 0} (go : Piece → Read A → Outcome (Read B)) (Other : B → List ℕ → Type 0)
      → ((y : B) (bs : List ℕ) → Other y bs → (x : A) × Kind x bs × ((p : Piece) → go p (record { value = x; size = length bs }) ≡ Ok (record { value = y; size = length bs })))
      → ((p : Piece) (x : Read A) (y : Read B) → go p x ≡ Ok y → ((bs : List ℕ) → Kind x.value bs → Other y.value bs) × (x.size ≡ y.size))
      → Reads (λ p. onward (rule p) (go p)) Other
  reads_by go Other forth back = record {
    written = λ y bs rest at k.
        let f = forth y bs k in
        let p : Piece = record { at = at; bytes = bs ++ rest } in
        ap (λ (r : Outcome (Read A)). onward r (go p)) (reads.written f.0 bs rest at f.1) ∙ f.2 p;
    read = λ p y e.
        let o = onward_back (rule p) (go p) y e in
        let b = back p o.0 y o.2 in
        begins_as Kind Other p o.0 y b.0 b.1 (reads.read p o.0 o.1);
  }

  pub reads_such : (test : A → Bool) (e : Piece → Refusal) → Reads (λ p. onward (rule p) (λ x. need (test x.value) (e p) (Ok x))) (Such Kind test)
  reads_such test e =
      reads_by (λ p x. need (test x.value) (e p) (Ok x)) (Such Kind test)
      (λ y bs k. (y, k.0, λ p. need_true _ _ _ k.1))
      (λ p x y k.
      let n = need_back (test x.value) (e p) (Ok x) y k in
      let s : x ≡ y = ok_same x y n.1 in
      (λ bs h. subst (λ (z : Read A). Such Kind test z.value bs) s (h, n.0), ap (λ (z : Read A). z.size) s))

  pub reads_made : {B : Type 0} (f : A → Option B) (e : Piece → Refusal)
      → Reads (λ p. onward (rule p) (λ x. or_refuse (f x.value) (e p) (λ y. Ok (record { value = y; size = x.size })))) (Made Kind f)
  reads_made {B} f e = reads_by (turns f e) (Made Kind f) forth back
    where
      forth : (y : B) (bs : List ℕ) → Made Kind f y bs → (x : A) × Kind x bs × ((p : Piece) → turns f e p (record { value = x; size = length bs }) ≡ Ok (record { value = y; size = length bs }))
      forth y bs (made {x = x} k h) = (x, k, λ p. rw h)

      back : (p : Piece) (x : Read A) (y : Read B) → turns f e p x ≡ Ok y → ((bs : List ℕ) → Kind x.value bs → Made Kind f y.value bs) × (x.size ≡ y.size)
      back p x y k =
          let o = or_refuse_back (f x.value) (e p) _ y k in
          let s : record { value = o.0; size = x.size } ≡ y = ok_same _ y o.2 in
          (λ bs h. subst (λ (z : Read B). Made Kind f z.value bs) s (made h o.1), ap (λ (z : Read B). z.size) s)

  pub reads_stores : {B : Type 0} (f : A → B) → Reads (λ p. stores (rule p) f) (Stored Kind f)
  reads_stores {B} f = record { written = forth; read = back }
    where
      forth : (y : B) (bs rest : List ℕ) (at : ℕ) → Stored Kind f y bs → stores (rule (record { at = at; bytes = bs ++ rest })) f ≡ Ok (record { value = y; size = length bs })
      forth y bs rest at (stored {x = x} k) = rw (reads.written x bs rest at k)

      back : (p : Piece) (y : Read B) → stores (rule p) f ≡ Ok y → Begins (Stored Kind f) p y
      back p y e =
          let o = keeps_back (rule p) _ y e in
          let P : Read B → Type 0 = λ z. Begins (Stored Kind f) p z in
          subst P o.2 (begins_as Kind (Stored Kind f) p o.0 _ (λ bs k. stored k) refl (reads.read p o.0 o.1))

  -- what passes a test, put to use
  pub reads_such_stores : {B : Type 0} (test : A → Bool) (f : A → B) (e : Piece → Refusal)
      → Reads (λ p. onward (rule p) (λ x. need (test x.value) (e p) (Ok (record { value = f x.value; size = x.size })))) (Stored (Such Kind test) f)
  reads_such_stores {B} test f e =
      reads_by (λ p x. need (test x.value) (e p) (Ok (puts f x))) (Stored (Such Kind test) f) forth
      (λ p x y k.
      let n = need_back (test x.value) (e p) (Ok (puts f x)) y k in
      let s : puts f x ≡ y = ok_same (puts f x) y n.1 in
      (λ bs h. subst (λ (z : Read B). Stored (Such Kind test) f z.value bs) s (stored (h, n.0)), ap (λ (z : Read B). z.size) s))
    where
      forth : (y : B) (bs : List ℕ) → Stored (Such Kind test) f y bs
          → (x : A) × Kind x bs × ((p : Piece) → need (test x) (e p) (Ok (puts f (record { value = x; size = length bs }))) ≡ Ok (record { value = y; size = length bs }))
      forth _ bs (stored {x = x} k) = (x, k.0, λ p. need_true _ _ _ k.1)

  -- what can be put to use, where that passes a test
  pub reads_made_such : {B : Type 0} (f : A → Option B) (e : Piece → Refusal) (test : B → Bool) (d : Piece → Refusal)
      → Reads (λ p. onward (rule p) (λ x. or_refuse (f x.value) (e p) (λ y. need (test y) (d p) (Ok (record { value = y; size = x.size }))))) (Such (Made Kind f) test)
  reads_made_such {B} f e test d = reads_by go (Such (Made Kind f) test) (λ y bs k. forth y bs k.0 k.1) back
    where
      go : Piece → Read A → Outcome (Read B)
      go p x = or_refuse (f x.value) (e p) (λ y. need (test y) (d p) (Ok (record { value = y; size = x.size })))

      forth : (y : B) (bs : List ℕ) → Made Kind f y bs → test y ≡ true → (x : A) × Kind x bs × ((p : Piece) → go p (record { value = x; size = length bs }) ≡ Ok (record { value = y; size = length bs }))
      forth y bs (made {x = x} k h) t = (x, k, λ p. rw h (need_true _ _ _ t))

      back : (p : Piece) (x : Read A) (y : Read B) → go p x ≡ Ok y → ((bs : List ℕ) → Kind x.value bs → Such (Made Kind f) test y.value bs) × (x.size ≡ y.size)
      back p x y k =
          let o = or_refuse_back (f x.value) (e p) _ y k in
          let n = need_back (test o.0) (d p) _ y o.2 in
          let s : record { value = o.0; size = x.size } ≡ y = ok_same _ y n.1 in
          (λ bs h. subst (λ (z : Read B). Such (Made Kind f) test z.value bs) s (made h o.1, n.0), ap (λ (z : Read B). z.size) s)

  -- one rule, and behind what it read another, which may know where the first one stood
  pub reads_behind : {B : Type 0} (second : A → Piece → Rule B) (Second : A → B → List ℕ → Type 0) → ((x : A) (q : Piece) → Reads (second x q) (Second x))
      → Reads (λ p. onward (rule p) (λ x. keeps (second x.value p (after x.size p)) (λ y. record { value = y.value; size = x.size + y.size }))) (Then Kind Second)
  reads_behind {B} second Second next = record { written = forth; read = back }
    where
      forth : (y : B) (bs rest : List ℕ) (at : ℕ) → Then Kind Second y bs → onward (rule (record { at = at; bytes = bs ++ rest })) (goes second (record { at = at; bytes = bs ++ rest })) ≡ Ok (record { value = y; size = length bs })
      forth y _ rest at (both {x = x} {a = a} {b = b} k l) =
          let p : Piece = record { at = at; bytes = (a ++ b) ++ rest } in
          ap (λ (r : Outcome (Read A)). onward r (goes second p)) (first_written reads x a b rest at k)
          ∙ ap (λ (q : Piece). keeps (second x p q) (λ z. record { value = z.value; size = length a + z.size })) (behind_first a b rest at)
          ∙ ap (λ (r : Outcome (Read B)). keeps r (λ z. record { value = z.value; size = length a + z.size })) ((next x p).written y b rest (at + length a) l)
          ∙ ap (λ (n : ℕ). Ok (record { value = y; size = n })) (sym (length-append a b))

      back : (p : Piece) (y : Read B) → onward (rule p) (goes second p) ≡ Ok y → Begins (Then Kind Second) p y
      back p y e =
          let o = onward_back (rule p) (goes second p) y e in
          let k = keeps_back (second o.0.value p (after o.0.size p)) _ y o.2 in
          begins_both Kind (Second o.0.value) (Then Kind Second) p o.0 k.0 y
          (λ a b f g. subst (λ (z : Read B). Then Kind Second z.value (a ++ b)) k.2 (both f g)) (ap (λ (z : Read B). z.size) k.2)
          (reads.read p o.0 o.1) ((next o.0.value p).read (after o.0.size p) k.0 k.1)

  pub reads_then : {B : Type 0} {second : A → Rule B} {Second : A → B → List ℕ → Type 0} → ((x : A) → Reads (second x) (Second x)) → Reads (then rule second) (Then Kind Second)
  reads_then {second = second} {Second = Second} next = reads_behind (λ x _. second x) Second (λ x _. next x)
