use Rattle.std.proofs.Common.{◌≡◌, ℕ, zero, suc, ◌+◌, ◌<◌, Bool, true, false, ltb, List, [], ◌++◌, length, drop, Some, None, Ok, Err, sym, refl, ap, ◌∙◌, subst, append_assoc, arith}
use Rattle.std.proofs.lemmas.List.{length-append, drop_at, drop-drop}
use Rattle.std.proofs.lemmas.Bool.{lt-ltb, ltb-true}
use Rattle.refusals.specs.Reading.{Outcome, onward, keeps, need, above}
use Rattle.refusals.specs.declared.Refusal.{Refusal}
use Rattle.refusals.specs.declared.Refusal.TheVariants.{Unknown, Missing}
use Rattle.refusals.proofs.Outcomes.{onward_back, keeps_back, need_back, need_true, ok_same}
use Rattle.parts.specs.Holders.{Element}
use Rattle.parts.specs.Parts.{Piece, after}
use Rattle.parts.specs.declared.kinds.Read.{Read}
use Rattle.parts.proofs.Cuts.{behind_at}
use Rattle.cbor.specs.declared.kinds.Keyed.{Keyed}
use Rattle.cbor.specs.Scalars.{Rule, number_at, array_at, map_at}
use Rattle.cbor.specs.Holders.{counted_from, array_by, Under, entry_at, map_by}
use Rattle.cbor.specs.Encodes.{Headed, Counted, done, more, ArrayOf, arrayed, Entry, entry, MapOf, mapped}
use Rattle.cbor.specs.Reads.{Begins, Reads}
use Rattle.cbor.proofs.Joins.{begins_as, begins_both, behind_first, first_written}
use Rattle.cbor.proofs.Rules.{reads_number, reads_array_head, reads_map_head}

-- arrays and maps are read exactly, if each element or field is

-- behind its first `used` bytes, a part has bytes of a kind
record Behind {S : Type 0} (Kind : S → List ℕ → Type 0) (p : Piece) (used : ℕ) (x : Read S) : Type 0 where
  bytes : List ℕ
  rest : List ℕ
  kind : Kind x.value bytes
  whole : drop used p.bytes ≡ bytes ++ rest
  long : used + length bytes ≡ x.size

module _ {S : Type 0} (element : Element S) (One : S → S → List ℕ → Type 0) (each : (s : S) → Reads (element s) (One s)) where
  counted_written : (n : ℕ) (s u : S) (a bs rest : List ℕ) (at used : ℕ) → length a ≡ used → Counted One n s u bs
      → counted_from element n s used (record { at = at; bytes = a ++ (bs ++ rest) }) ≡ Ok (record { value = u; size = used + length bs })
  counted_written _ s _ a _ rest at used l done = ap (λ (i : ℕ). Ok (record { value = s; size = i })) (omega arith)
  counted_written _ s u a _ rest at used l (more {n = n} {t = t} {v = v} {bs = b} o k) =
      let m : List ℕ = a ++ ((v ++ b) ++ rest) in
      let p : Piece = record { at = at; bytes = m } in
      let q : after used p ≡ record { at = at + used; bytes = (v ++ b) ++ rest } = behind_at a ((v ++ b) ++ rest) at used l in
      let w : m ≡ (a ++ v) ++ (b ++ rest) = ap (λ (z : List ℕ). a ++ z) (append_assoc v b rest) ∙ sym (append_assoc a v (b ++ rest)) in
      let la : length (a ++ v) ≡ used + length v = rw length-append (omega arith) in
      ap (λ (r : Outcome (Read S)). onward r (λ x. counted_from element n x.value (used + x.size) p)) (ap (element s) q ∙ first_written (each s) t v b rest (at + used) o)
      ∙ ap (λ (z : List ℕ). counted_from element n t (used + length v) (record { at = at; bytes = z })) w
      ∙ counted_written n t u (a ++ v) b rest at (used + length v) la k
      ∙ ap (λ (i : ℕ). Ok (record { value = u; size = i })) (omega (arith, length-append v b))

  counted_back : (n : ℕ) (s : S) (used : ℕ) (p : Piece) (x : Read S) → counted_from element n s used p ≡ Ok x → Behind (Counted One n s) p used x
  counted_back zero s used p x e =
      let P : Read S → Type 0 = λ z. Behind (Counted One 0 s) p used z in
      subst P (ok_same _ x e) (record { bytes = []; rest = drop used p.bytes; kind = done; whole = refl; long = omega arith })
  counted_back (suc n) s used p x e =
      let o = onward_back (element s (after used p)) _ x e in
      counted_one n s used p o.0 x ((each s).read (after used p) o.0 o.1) (counted_back n o.0.value (used + o.0.size) p x o.2)
    where
      counted_one : (n : ℕ) (s : S) (used : ℕ) (p : Piece) (r x : Read S) → Begins (One s) (after used p) r → Behind (Counted One n r.value) p (used + r.size) x → Behind (Counted One (suc n) s) p used x
      counted_one n s used p r x a b =
          let d : a.rest ≡ b.bytes ++ b.rest
          = sym (drop_at a.bytes a.rest r.size a.long) ∙ ap (λ (z : List ℕ). drop r.size z) (sym a.whole) ∙ drop-drop r.size used p.bytes ∙ b.whole in
          record {
            bytes = a.bytes ++ b.bytes;
            rest = b.rest;
            kind = more a.kind b.kind;
            whole = a.whole ∙ ap (λ (z : List ℕ). a.bytes ++ z) d ∙ sym (append_assoc a.bytes b.bytes b.rest);
            long = rw length-append (omega (arith, a.long, b.long));
          }

  -- behind a head that says how many, so many elements
  module _ (major : ℕ) (head : Rule ℕ) (heads : Reads head (Headed major)) where
    abbrev row_by : S → Rule S
    row_by s p = onward (head p) (λ n. need (ltb 0 n.value) (Missing p.at) (counted_from element n.value s n.size p))

    row_written : (n : ℕ) (s u : S) (h bs rest : List ℕ) (at : ℕ) → Headed major n h → 0 < n → Counted One n s u bs
        → row_by s (record { at = at; bytes = (h ++ bs) ++ rest }) ≡ Ok (record { value = u; size = length (h ++ bs) })
    row_written n s u h bs rest at k some c =
        let p : Piece = record { at = at; bytes = (h ++ bs) ++ rest } in
        ap (λ (r : Outcome (Read ℕ)). onward r (λ x. need (ltb 0 x.value) (Missing at) (counted_from element x.value s x.size p))) (first_written heads n h bs rest at k)
        ∙ need_true _ _ _ (lt-ltb 0 n some)
        ∙ ap (λ (m : List ℕ). counted_from element n s (length h) (record { at = at; bytes = m })) (append_assoc h bs rest)
        ∙ counted_written n s u h bs rest at (length h) refl c
        ∙ ap (λ (i : ℕ). Ok (record { value = u; size = i })) (sym (length-append h bs))

    row_back : (Whole : S → List ℕ → Type 0) (s : S) → ((n : ℕ) (u : S) (h bs : List ℕ) → Headed major n h → 0 < n → Counted One n s u bs → Whole u (h ++ bs))
        → (p : Piece) (x : Read S) → row_by s p ≡ Ok x → Begins Whole p x
    row_back Whole s join p x e =
        let o = onward_back (head p) _ x e in
        let n : Read ℕ = o.0 in
        let k = need_back (ltb 0 n.value) _ _ x o.2 in
        let a = heads.read p n o.1 in
        let b = counted_back n.value s n.size p x k.1 in
        let d : a.rest ≡ b.bytes ++ b.rest
        = sym (drop_at a.bytes a.rest n.size a.long) ∙ ap (λ (z : List ℕ). drop n.size z) (sym a.whole) ∙ b.whole in
        record {
          bytes = a.bytes ++ b.bytes;
          rest = b.rest;
          kind = join n.value x.value a.bytes b.bytes a.kind (ltb-true _ _ k.0) b.kind;
          whole = a.whole ∙ ap (λ (z : List ℕ). a.bytes ++ z) d ∙ sym (append_assoc a.bytes b.bytes b.rest);
          long = rw length-append (omega (arith, a.long, b.long));
        }

pub reads_array : {S : Type 0} (element : Element S) (One : S → S → List ℕ → Type 0) → ((s : S) → Reads (element s) (One s)) → (s : S) → Reads (array_by element s) (ArrayOf One s)
reads_array {S} element One each s = record { written = forth; read = row_back element One each 4 array_at reads_array_head (ArrayOf One s) s (λ n u h bs k some c. arrayed k some c) }
  where
    forth : (u : S) (bs rest : List ℕ) (at : ℕ) → ArrayOf One s u bs → array_by element s (record { at = at; bytes = bs ++ rest }) ≡ Ok (record { value = u; size = length bs })
    forth u _ rest at (arrayed {n = n} {h = h} {bs = bs} k some c) = row_written element One each 4 array_at reads_array_head n s u h bs rest at k some c

module _ {F : Type 0} (under : Under F) (Field : F → ℕ → F → List ℕ → Type 0) (each : (s : F) (key at : ℕ) → Reads (under s key at) (Field s key)) where
  -- an entry, of what was read as its key
  abbrev entry_by : Keyed F → Piece → Read ℕ → Outcome (Read (Keyed F))
  entry_by s p key =
      need (above s.last key.value) (Unknown p.at)
      (onward (under s.fields key.value p.at (after key.size p)) (λ x.
      Ok (record { value = record { last = Some key.value; fields = x.value }; size = key.size + x.size })))

  -- an entry, of what was read as its value
  abbrev keyed_by : ℕ → ℕ → Read F → Read (Keyed F)
  keyed_by key n x = record { value = record { last = Some key; fields = x.value }; size = n + x.size }

  reads_entry : (s : Keyed F) → Reads (entry_at under s) (Entry Field s)
  reads_entry s = record { written = forth; read = back }
    where
      forth : (u : Keyed F) (bs rest : List ℕ) (at : ℕ) → Entry Field s u bs → entry_at under s (record { at = at; bytes = bs ++ rest }) ≡ Ok (record { value = u; size = length bs })
      forth _ _ rest at (entry {key = key} {t = t} {h = h} {v = v} k up f) =
          let p : Piece = record { at = at; bytes = (h ++ v) ++ rest } in
          ap (λ (r : Outcome (Read ℕ)). onward r (entry_by s p)) (first_written reads_number key h v rest at k)
          ∙ need_true _ _ _ up
          ∙ ap (λ (r : Outcome (Read F)). onward r (λ x. Ok (keyed_by key (length h) x))) (ap (under s.fields key at) (behind_first h v rest at) ∙ (each s.fields key at).written t v rest (at + length h) f)
          ∙ ap (λ (i : ℕ). Ok (record { value = record { last = Some key; fields = t }; size = i })) (sym (length-append h v))

      back : (p : Piece) (x : Read (Keyed F)) → entry_at under s p ≡ Ok x → Begins (Entry Field s) p x
      back p x e =
          let o = onward_back (number_at p) (entry_by s p) x e in
          let key : Read ℕ = o.0 in
          let n = need_back (above s.last key.value) _ _ x o.2 in
          let u = onward_back (under s.fields key.value p.at (after key.size p)) (λ y. Ok (keyed_by key.value key.size y)) x n.1 in
          let i : keyed_by key.value key.size u.0 ≡ x = ok_same _ x u.2 in
          begins_both (Headed 0) (Field s.fields key.value) (Entry Field s) p key u.0 x
          (λ a b k f. subst (λ (z : Read (Keyed F)). Entry Field s z.value (a ++ b)) i (entry k n.0 f)) (ap (λ (z : Read (Keyed F)). z.size) i)
          (reads_number.read p key o.1) ((each s.fields key.value p.at).read (after key.size p) u.0 u.1)

  -- the entries of a map, with the last key
  data Rows (s : F) : Keyed F → List ℕ → Type 0 where
    rows : {n : ℕ} {u : Keyed F} {h bs : List ℕ} → Headed 5 n h → 0 < n → Counted (Entry Field) n (record { last = None; fields = s }) u bs → Rows s u (h ++ bs)

  abbrev outer : Read (Keyed F) → Read F
  outer r = record { value = r.value.fields; size = r.size }

  keeps_row : {A B : Type 0} (r : Outcome (Read ℕ)) (f : Read ℕ → Outcome A) (b : Read ℕ → Bool) (e : Refusal) (g : A → B)
      → onward r (λ n. need (b n) e (keeps (f n) g)) ≡ keeps (onward r (λ n. need (b n) e (f n))) g
  keeps_row (Err x) f b e g = refl
  keeps_row (Ok n) f b e g = by (b n)
    where
      by : (t : Bool) → need t e (keeps (f n) g) ≡ keeps (need t e (f n)) g
      by true = refl
      by false = refl

  pub reads_map : (s : F) → Reads (map_by under s) (MapOf Field s)
  reads_map s = record { written = forth; read = back }
    where
      forth : (u : F) (bs rest : List ℕ) (at : ℕ) → MapOf Field s u bs → map_by under s (record { at = at; bytes = bs ++ rest }) ≡ Ok (record { value = u; size = length bs })
      forth _ _ rest at (mapped {n = n} {u = u} {h = h} {bs = bs} k some c) =
          keeps_row (map_at (record { at = at; bytes = (h ++ bs) ++ rest })) (λ x. counted_from (entry_at under) x.value (record { last = None; fields = s }) x.size (record { at = at; bytes = (h ++ bs) ++ rest })) (λ x. ltb 0 x.value) (Missing at) outer
          ∙ ap (λ (r : Outcome (Read (Keyed F))). keeps r outer) (row_written (entry_at under) (Entry Field) reads_entry 5 map_at reads_map_head n (record { last = None; fields = s }) u h bs rest at k some c)

      back : (p : Piece) (x : Read F) → map_by under s p ≡ Ok x → Begins (MapOf Field s) p x
      back p x e =
          let k = keeps_back (row_by (entry_at under) (Entry Field) reads_entry 5 map_at reads_map_head (record { last = None; fields = s }) p) outer x
          (sym (keeps_row (map_at p) (λ n. counted_from (entry_at under) n.value (record { last = None; fields = s }) n.size p) (λ n. ltb 0 n.value) (Missing p.at) outer) ∙ e) in
          let b = row_back (entry_at under) (Entry Field) reads_entry 5 map_at reads_map_head (Rows s) (record { last = None; fields = s }) (λ n u h bs i some c. rows i some c) p k.0 k.1 in
          subst (λ (z : Read F). Begins (MapOf Field s) p z) k.2 (begins_as (Rows s) (MapOf Field s) p k.0 (outer k.0) from refl b)
        where
          from : {u : Keyed F} (bs : List ℕ) → Rows s u bs → MapOf Field s u.fields bs
          from _ (rows i some c) = mapped i some c
