use Rattle.std.proofs.Common.{◌≡◌, ℕ, ◌+◌, ◌-◌, ◌<◌, Bool, true, false, cond, not, eqb, List, [], ◌∷◌, ◌++◌, length, is_some, Some, None, Ok, Option, sym, refl, ap, ◌∙◌, subst, inl, inr, arith}
use Rattle.std.specs.Str.{bytes_eq}
use Rattle.std.proofs.lemmas.Slice.Eq.{bytes_eq-Decides}
use Rattle.std.proofs.lemmas.List.{append-nil, length-append, nil_from_length}
use Rattle.std.proofs.lemmas.Bool.{or_cases, lt-ltb, eqb-true, not-true, not_from_false}
use Rattle.refusals.specs.Reading.{Outcome, onward, keeps, need}
use Rattle.refusals.specs.declared.Refusal.TheVariants.{Malformed, Missing}
use Rattle.claims.proofs.Kept.{kept_within, kept_from_lem}
use Rattle.claims.specs.Bytes.{kept_from}
use Rattle.claims.specs.Limits.{stands}
use Rattle.claims.specs.declared.kinds.Bytes.{Bytes}
use Rattle.claims.specs.declared.kinds.Claim.{Claim}
use Rattle.der.specs.Contents.{bytes_in}
use Rattle.der.specs.Encodes.{Coded, Chain, done, more}
use Rattle.parts.specs.Holders.{elements_in}
use Rattle.der.specs.Items.{Shape, boolean, octets, identifier, sequence, field, Front, item_of}
use Rattle.parts.specs.Parts.{some, none}
use Rattle.der.specs.Kinds.{is_boolean, is_octets, is_identifier, is_sequence, Holder, item_at, truth, past_boolean, after_boolean}
use Rattle.parts.specs.Parts.{Piece, whole_of}
use Rattle.parts.specs.declared.kinds.Read.{Read}
use Rattle.der.proofs.Back.{Begun, chain_back}
use Rattle.der.proofs.Encoded.{item_forth, chain_forth}
use Rattle.refusals.proofs.Outcomes.{onward_back, keeps_back, need_back, or_refuse_back, need_true, cond_back, ok_same, some_same}
use Rattle.dice.specs.Names.{tcb_info, ueid, extension_of}
use Rattle.dice.specs.Fields.{info_in}
use Rattle.dice.specs.Extensions.{ueid_in, held_by, again, extension_value, extension_parts, extension_at, no_extensions}
use Rattle.dice.specs.Messages.{on_instance, message_of}
use Rattle.dice.specs.Layout.{Kept, kept, Writes, Perhaps, absent, said_no, said_yes, Framed, framed, ExtensionOf, info, instance, other, Carries, carries}
use Rattle.dice.specs.Laws.{ReadAsCarried}
use Rattle.dice.specs.declared.kinds.Extension.{Extension}
use Rattle.dice.specs.declared.kinds.Extension.TheVariants.{TcbInfo, Ueid, Other}
use Rattle.dice.specs.declared.kinds.Extensions.{Extensions}
use Rattle.dice.proofs.Items.{kind_forth, kind_whole, kind_back, Was}

-- the tag of an item of a kind

shape_by : (a b c d : Bool) (t : ℕ) (p : Piece) → Shape
shape_by a b c d t p = cond a (boolean p) (cond b (octets p) (cond c (identifier p) (cond d (sequence p) (field t p))))

boolean_by : (a b c d : Bool) (t : ℕ) (p q : Piece) → is_boolean (shape_by a b c d t p) ≡ Some q → (a ≡ true) × (p ≡ q)
unfolding shape_by
boolean_by true b c d t p q e = (refl, some_same p q e)
boolean_by false true c d t p q e = absurd (grind arith)
boolean_by false false true d t p q e = absurd (grind arith)
boolean_by false false false true t p q e = absurd (grind arith)
boolean_by false false false false t p q e = absurd (grind arith)

octets_by : (a b c d : Bool) (t : ℕ) (p q : Piece) → is_octets (shape_by a b c d t p) ≡ Some q → (b ≡ true) × (p ≡ q)
unfolding shape_by
octets_by true b c d t p q e = absurd (grind arith)
octets_by false true c d t p q e = (refl, some_same p q e)
octets_by false false true d t p q e = absurd (grind arith)
octets_by false false false true t p q e = absurd (grind arith)
octets_by false false false false t p q e = absurd (grind arith)

identifier_by : (a b c d : Bool) (t : ℕ) (p q : Piece) → is_identifier (shape_by a b c d t p) ≡ Some q → (c ≡ true) × (p ≡ q)
unfolding shape_by
identifier_by true b c d t p q e = absurd (grind arith)
identifier_by false true c d t p q e = absurd (grind arith)
identifier_by false false true d t p q e = (refl, some_same p q e)
identifier_by false false false true t p q e = absurd (grind arith)
identifier_by false false false false t p q e = absurd (grind arith)

sequence_by : (a b c d : Bool) (t : ℕ) (p q : Piece) → is_sequence (shape_by a b c d t p) ≡ Some q → (d ≡ true) × (p ≡ q)
unfolding shape_by
sequence_by true b c d t p q e = absurd (grind arith)
sequence_by false true c d t p q e = absurd (grind arith)
sequence_by false false true d t p q e = absurd (grind arith)
sequence_by false false false true t p q e = (refl, some_same p q e)
sequence_by false false false false t p q e = absurd (grind arith)

-- an item of a kind that is found was written

boolean_was : (p : Piece) (h : Holder) → item_at is_boolean p ≡ Ok h → Was 0x01 p h
unfolding shape_by
boolean_was = kind_back is_boolean 0x01 (omega arith) (λ t p q e. let k = boolean_by (eqb t 0x01) (eqb t 0x04) (eqb t 0x06) (eqb t 0x30) t p q e in (eqb-true t 0x01 k.0, k.1))

octets_was : (p : Piece) (h : Holder) → item_at is_octets p ≡ Ok h → Was 0x04 p h
unfolding shape_by
octets_was = kind_back is_octets 0x04 (omega arith) (λ t p q e. let k = octets_by (eqb t 0x01) (eqb t 0x04) (eqb t 0x06) (eqb t 0x30) t p q e in (eqb-true t 0x04 k.0, k.1))

identifier_was : (p : Piece) (h : Holder) → item_at is_identifier p ≡ Ok h → Was 0x06 p h
unfolding shape_by
identifier_was = kind_back is_identifier 0x06 (omega arith) (λ t p q e. let k = identifier_by (eqb t 0x01) (eqb t 0x04) (eqb t 0x06) (eqb t 0x30) t p q e in (eqb-true t 0x06 k.0, k.1))

sequence_was : (p : Piece) (h : Holder) → item_at is_sequence p ≡ Ok h → Was 0x30 p h
unfolding shape_by
sequence_was = kind_back is_sequence 0x30 (omega arith) (λ t p q e. let k = sequence_by (eqb t 0x01) (eqb t 0x04) (eqb t 0x06) (eqb t 0x30) t p q e in (eqb-true t 0x30 k.0, k.1))

-- the bytes of an item that was written, by what is found of it

first_coded : (tag : ℕ) (p : Piece) (h : Holder) → Was tag p h → (v : List ℕ) × Coded tag h.content.bytes v × (p.bytes ≡ v ++ h.rest.bytes) × (0 < length v)
first_coded tag p h w =
    let P : List ℕ → Type 0 = λ c. Coded tag c w.bytes in (
      w.bytes,
      subst P (sym (ap (λ (q : Piece). q.bytes) w.inside)) w.coded,
      w.whole ∙ ap (λ (l : List ℕ). w.bytes ++ l) (sym (ap (λ (q : Piece). q.bytes) w.behind)),
      w.some,
    )

all_coded : (tag : ℕ) (p : Piece) (h : Holder) → Was tag p h → none h.rest ≡ true → Coded tag h.content.bytes p.bytes
all_coded tag p h w e =
    let k = first_coded tag p h w in
    let P : List ℕ → Type 0 = λ l. Coded tag h.content.bytes l in
    let n : h.rest.bytes ≡ [] = nil_from_length h.rest.bytes (eqb-true _ _ e) in
    subst P (sym (append-nil k.0) ∙ ap (λ (l : List ℕ). k.0 ++ l) (sym n) ∙ sym k.2) k.1

-- what was found leads on

onward_ok : {A B : Type 0} (r : Outcome A) (f : A → Outcome B) (x : A) → r ≡ Ok x → onward r f ≡ f x
onward_ok r f x e = ap (λ (z : Outcome _). onward z f) e

-- DiceUeid

ueid_forth : (b : Bytes 33) (c o x : List ℕ) (at from : ℕ) → Kept 33 7 b c → Coded 0x04 c o → Coded 0x30 o x → ueid_in at (record { at = from; bytes = x }) ≡ Ok b
ueid_forth _ c o x at from (kept enough few) k l =
    let s = kind_whole is_sequence 0x30 o x from (λ p. refl) l in
    let v = kind_whole is_octets 0x04 c o (from + s.0) (λ p. refl) k in
    let i : 0 < length x = omega (arith, s.1, s.2) in
    let j : 0 < length o = omega (arith, v.1, v.2) in
    need_true _ _ _ (lt-ltb 0 (length x) i)
    ∙ onward_ok _ _ _ s.3
    ∙ need_true _ _ _ (lt-ltb 0 (length o) j)
    ∙ onward_ok _ _ _ v.3
    ∙ rw (kept_within 33 7 c enough few)

ueid_back : (b : Bytes 33) (at : ℕ) (p : Piece) → ueid_in at p ≡ Ok b → (c : List ℕ) × (o : List ℕ) × Kept 33 7 b c × Coded 0x04 c o × Coded 0x30 o p.bytes
ueid_back b at p e =
    let a = need_back (some p) _ _ _ e in
    let h = onward_back (item_at is_sequence p) _ _ a.1 in
    let c = need_back (some h.0.content) _ _ _ h.2 in
    let v = onward_back (item_at is_octets h.0.content) _ _ c.1 in
    let k = onward_back (bytes_in 33 7 h.0.content.at v.0.content.bytes) _ _ v.2 in
    let n = need_back (none v.0.rest) _ _ _ k.2 in
    let o = need_back (none h.0.rest) _ _ _ n.1 in
    let z = or_refuse_back (kept_from 33 7 v.0.content.bytes) _ _ _ k.1 in
    let f = kept_from_lem 33 7 v.0.content.bytes z.0 z.1 in
    let P : Bytes 33 → Type 0 = λ x. Kept 33 7 x v.0.content.bytes in (
      v.0.content.bytes,
      h.0.content.bytes,
      subst P (f.0 ∙ ok_same _ _ z.2 ∙ ok_same _ _ o.1) (kept f.1 f.2),
      all_coded 0x04 h.0.content v.0 (octets_was h.0.content v.0 v.1) n.0,
      all_coded 0x30 p h.0 (sequence_was p h.0 h.1) o.0,
    )

-- perhaps a BOOLEAN, before an OCTET STRING

boolean_forth : (b c e : List ℕ) (at : ℕ) → Perhaps b → Coded 0x04 c e → (to : ℕ) × (after_boolean (record { at = at; bytes = b ++ e }) ≡ Ok (record { at = to; bytes = e }))
boolean_forth _ c e at absent k =
    let f = item_forth 0x04 c e [] at k in
    let g = rw append-nil at f.reads in
    (at, rw g)
boolean_forth b c e at (said_no k) _ =
    let f = item_forth 0x01 (0x00 ∷ []) b e at k in
    (at + length b, rw f.reads)
boolean_forth b c e at (said_yes k) _ =
    let f = item_forth 0x01 (0xFF ∷ []) b e at k in
    (at + length b, rw f.reads)

truth_back : (c v : List ℕ) → truth c ≡ true → Coded 0x01 c v → Perhaps v
truth_back [] v t k = absurd (grind arith)
truth_back (x ∷ y ∷ c) v t k = absurd (grind arith)
truth_back (x ∷ []) v t k =
    let P : ℕ → Type 0 = λ n. Coded 0x01 (n ∷ []) v in
    elim (or_cases (eqb x 0x00) (eqb x 0xFF) t) [
      | inl a ↦ said_no (subst P (eqb-true x 0x00 a) k)
      | inr a ↦ said_yes (subst P (eqb-true x 0xFF a) k)
    ]

past_back : (p q : Piece) (f : Front) → item_of p ≡ Some f → (o : Option Piece) → is_boolean f.item ≡ o → past_boolean p o f.rest ≡ Ok q
    → (b : List ℕ) × Perhaps b × (p.bytes ≡ b ++ q.bytes)
past_back p q f e None i k = ([], absent, ap (λ (x : Piece). x.bytes) (ok_same p q k))
past_back p q f e (Some c) i k =
    let t = need_back (truth c.bytes) _ _ _ k in
    let h : Holder = record { content = c; rest = f.rest } in
    let found : item_at is_boolean p ≡ Ok h = rw (e, i) in
    let w = first_coded 0x01 p h (boolean_was p h found) in
    (w.0, truth_back c.bytes w.0 t.0 w.1, w.2 ∙ ap (λ (x : Piece). w.0 ++ x.bytes) (ok_same f.rest q t.1))

boolean_back : (p q : Piece) → after_boolean p ≡ Ok q → (b : List ℕ) × Perhaps b × (p.bytes ≡ b ++ q.bytes)
boolean_back p q e =
    let a = or_refuse_back (item_of p) _ _ _ e in
    past_back p q a.0 a.1 (is_boolean a.0.item) refl a.2

-- an extension, by what its OCTET STRING holds

frame_forth : (s t : Extensions) (name c v rest : List ℕ) (at : ℕ) → Framed name c v → again (extension_of name) s ≡ false
    → ((on from : ℕ) → held_by (extension_of name) s on (record { at = from; bytes = c }) ≡ Ok t)
    → (0 < length v) × (extension_at s (record { at = at; bytes = v ++ rest }) ≡ Ok (record { value = t; size = length v }))
frame_forth s t name c v rest at (framed {a = a} {b = b} {e = e} i p o q) new held =
    let h = kind_forth is_sequence 0x30 (a ++ (b ++ e)) v rest at (λ p. refl) q in
    let n = kind_forth is_identifier 0x06 name a (b ++ e) (at + h.header) (λ p. refl) i in
    let f = boolean_forth b c e (at + h.header + length a) p o in
    let d = kind_whole is_octets 0x04 c e f.0 (λ p. refl) o in
    let x : 0 < length e = omega (arith, d.1, d.2) in
    let y : 0 < length (b ++ e) = omega (arith, length-append b e) in
    let z : 0 < length (a ++ (b ++ e)) = omega (arith, length-append a (b ++ e)) in
    let parts : extension_parts s at (record { at = at + h.header; bytes = a ++ (b ++ e) }) ≡ Ok t =
    need_true _ _ _ (lt-ltb 0 (length (a ++ (b ++ e))) z)
    ∙ onward_ok _ _ _ n.reads
    ∙ need_true _ _ _ (not_from_false _ new)
    ∙ need_true _ _ _ (lt-ltb 0 (length (b ++ e)) y)
    ∙ onward_ok _ _ _ f.1
    ∙ need_true _ _ _ (lt-ltb 0 (length e) x)
    ∙ onward_ok _ _ _ d.3
    ∙ onward_ok _ _ _ (held f.0 (f.0 + d.0)) in
    let l : length (v ++ rest) - length rest ≡ length v = omega (arith, length-append v rest) in (
      omega (arith, h.long, h.some),
      onward_ok _ _ _ h.reads ∙ onward_ok _ _ _ parts ∙ ap (λ (k : ℕ). Ok (record { value = t; size = k })) l,
    )

record FrameIs (s : Extensions) (p : Piece) (x : Read Extensions) : Type 0 where
  name : List ℕ
  on : ℕ
  held : Piece
  bytes : List ℕ
  rest : List ℕ
  framed : Framed name held.bytes bytes
  new : again (extension_of name) s ≡ false
  holds : held_by (extension_of name) s on held ≡ Ok x.value
  whole : p.bytes ≡ bytes ++ rest
  long : length bytes ≡ x.size
  some : 0 < length bytes

value_back : (k : Extension) (s t : Extensions) (at : ℕ) (p : Piece) → extension_value k s at p ≡ Ok t
    → (on : ℕ) × (c : Piece) × Coded 0x04 c.bytes p.bytes × (held_by k s on c ≡ Ok t)
value_back k s t at p e =
    let a = need_back (some p) _ _ _ e in
    let v = onward_back (item_at is_octets p) _ _ a.1 in
    let h = onward_back (held_by k s p.at v.0.content) _ _ v.2 in
    let n = need_back (none v.0.rest) _ _ _ h.2 in (
      p.at,
      v.0.content,
      all_coded 0x04 p v.0 (octets_was p v.0 v.1) n.0,
      h.1 ∙ n.1,
    )

record PartsAre (s t : Extensions) (p : Piece) : Type 0 where
  name : List ℕ
  on : ℕ
  held : Piece
  a : List ℕ
  b : List ℕ
  e : List ℕ
  named : Coded 0x06 name a
  perhaps : Perhaps b
  octets : Coded 0x04 held.bytes e
  whole : p.bytes ≡ a ++ (b ++ e)
  new : again (extension_of name) s ≡ false
  holds : held_by (extension_of name) s on held ≡ Ok t

parts_back : (s t : Extensions) (at : ℕ) (p : Piece) → extension_parts s at p ≡ Ok t → PartsAre s t p
parts_back s t at p e =
    let a = need_back (some p) _ _ _ e in
    let n = onward_back (item_at is_identifier p) _ _ a.1 in
    let g = need_back (not (again (extension_of n.0.content.bytes) s)) _ _ _ n.2 in
    let r = need_back (some n.0.rest) _ _ _ g.1 in
    let q = onward_back (after_boolean n.0.rest) _ _ r.1 in
    let b = boolean_back n.0.rest q.0 q.1 in
    let v = value_back (extension_of n.0.content.bytes) s t at q.0 q.2 in
    let i = first_coded 0x06 p n.0 (identifier_was p n.0 n.1) in
    record {
      name = n.0.content.bytes;
      on = v.0;
      held = v.1;
      a = i.0;
      b = b.0;
      e = q.0.bytes;
      named = i.1;
      perhaps = b.1;
      octets = v.2;
      whole = i.2 ∙ ap (λ (l : List ℕ). i.0 ++ l) b.2;
      new = not-true _ g.0;
      holds = v.3;
    }

frame_back : (s : Extensions) (p : Piece) (x : Read Extensions) → extension_at s p ≡ Ok x → FrameIs s p x
frame_back s p x e =
    let h = onward_back (item_at is_sequence p) _ _ e in
    let t = onward_back (extension_parts s p.at h.0.content) _ _ h.2 in
    let w = parts_back s t.0 p.at h.0.content t.1 in
    let i = first_coded 0x30 p h.0 (sequence_was p h.0 h.1) in
    let same = ok_same _ _ t.2 in
    let P : List ℕ → Type 0 = λ l. Coded 0x30 l i.0 in
    record {
      name = w.name;
      on = w.on;
      held = w.held;
      bytes = i.0;
      rest = h.0.rest.bytes;
      framed = framed w.named w.perhaps w.octets (subst P w.whole i.1);
      new = w.new;
      holds = w.holds ∙ ap (λ (r : Read Extensions). Ok r.value) same;
      whole = i.2;
      long = omega (arith, ap length i.2, length-append i.0 h.0.rest.bytes, ap (λ (r : Read Extensions). r.size) same);
      some = i.3;
    }

-- the names of the extensions that are read

named_info : (name : List ℕ) → extension_of name ≡ TcbInfo → name ≡ tcb_info
named_info name e =
    elim (cond_back (bytes_eq name tcb_info) _ _ _ e) [
      | inl a ↦ (bytes_eq-Decides name tcb_info).0 a.0
      | inr a ↦ elim (cond_back (bytes_eq name ueid) _ _ _ a.1) [
        | inl b ↦ absurd (grind arith)
        | inr b ↦ absurd (grind arith)
      ]
    ]

named_ueid : (name : List ℕ) → extension_of name ≡ Ueid → name ≡ ueid
named_ueid name e =
    elim (cond_back (bytes_eq name tcb_info) _ _ _ e) [
      | inl a ↦ absurd (grind arith)
      | inr a ↦ elim (cond_back (bytes_eq name ueid) _ _ _ a.1) [
        | inl b ↦ (bytes_eq-Decides name ueid).0 b.0
        | inr b ↦ absurd (grind arith)
      ]
    ]

one_same : {A : Type 0} (x y : A) → x ∷ [] ≡ y ∷ [] → x ≡ y
one_same x y e = grind arith

not_some : {A : Type 0} (o : Option A) → is_some o ≡ false → o ≡ None
not_some None e = refl
not_some (Some x) e = absurd (grind arith)

-- what the extensions of a message carry, where nothing stands behind them
carries_back : (m : List ℕ) (h : Holder) (d c : Claim) (x : Extensions) → Was 0x30 (whole_of m) h → Chain ExtensionOf no_extensions x h.content.bytes → x.info ≡ Some d
    → need (none h.rest) (Malformed h.rest.at) (need (stands (on_instance d x.instance)) (Missing 0) (Ok (on_instance d x.instance))) ≡ Ok c
    → Carries c m
carries_back m h d c x w k i e =
    let n = need_back (none h.rest) _ _ c e in
    let t = need_back (stands (on_instance d x.instance)) _ _ c n.1 in
    let P : Claim → Type 0 = λ y. Carries y m in
    let Q : Option Claim → Type 0 = λ o. Chain ExtensionOf no_extensions (record { info = o; instance = x.instance }) h.content.bytes in
    subst P (ok_same _ c t.1) (carries (subst Q i k) (all_coded 0x30 (whole_of m) h w n.0) t.0)

-- the law of a whole message, by that of DiceTcbInfo's fields
module _
    (info_forth : (c : Claim) (fields x : List ℕ) (at from : ℕ) → Writes c fields → 0 < length fields → Coded 0x30 fields x → info_in at (record { at = from; bytes = x }) ≡ Ok c)
    (info_back : (c : Claim) (at : ℕ) (p : Piece) → info_in at p ≡ Ok c → (fields : List ℕ) × Writes c fields × (0 < length fields) × Coded 0x30 fields p.bytes) where
  extension_forth : (s t : Extensions) (v rest : List ℕ) (at : ℕ) → ExtensionOf s t v
      → (0 < length v) × (extension_at s (record { at = at; bytes = v ++ rest }) ≡ Ok (record { value = t; size = length v }))
  extension_forth s _ v rest at (info {c = c} {fields = fields} {x = x} new w some k f) =
      frame_forth s (record { info = Some c; instance = s.instance }) tcb_info x v rest at f (ap is_some new)
      (λ on from. ap (λ (r : Outcome Claim). keeps r (λ d. record { info = Some d; instance = s.instance })) (info_forth c fields x on from w some k))
  extension_forth s _ v rest at (instance {b = b} {c = c} {o = o} {x = x} new w k l f) =
      frame_forth s (record { info = s.info; instance = Some b }) ueid x v rest at f (ap is_some new)
      (λ on from. ap (λ (r : Outcome (Bytes 33)). keeps r (λ d. record { info = s.info; instance = Some d })) (ueid_forth b c o x on from w k l))
  extension_forth s _ v rest at (other {name = name} {c = c} e f) =
      frame_forth s s name c v rest at f (ap (λ (k : Extension). again k s) e)
      (λ on from. ap (λ (k : Extension). held_by k s on (record { at = from; bytes = c })) e)

  held_back : (s t : Extensions) (name v : List ℕ) (on : ℕ) (c : Piece) → Framed name c.bytes v → (k : Extension) → extension_of name ≡ k
      → again k s ≡ false → held_by k s on c ≡ Ok t → ExtensionOf s t v
  held_back s t name v on c f TcbInfo e new h =
      let k = keeps_back (info_in on c) _ _ h in
      let w = info_back k.0 on c k.1 in
      let P : List ℕ → Type 0 = λ n. Framed n c.bytes v in
      let Q : Extensions → Type 0 = λ x. ExtensionOf s x v in
      subst Q k.2 (info (not_some s.info new) w.1 w.2 w.3 (subst P (named_info name e) f))
  held_back s t name v on c f Ueid e new h =
      let k = keeps_back (ueid_in on c) _ _ h in
      let w = ueid_back k.0 on c k.1 in
      let P : List ℕ → Type 0 = λ n. Framed n c.bytes v in
      let Q : Extensions → Type 0 = λ x. ExtensionOf s x v in
      subst Q k.2 (instance (not_some s.instance new) w.2 w.3 w.4 (subst P (named_ueid name e) f))
  held_back s t name v on c f Other e new h =
      let Q : Extensions → Type 0 = λ x. ExtensionOf s x v in
      subst Q (ok_same s t h) (other e f)

  extension_back : (s : Extensions) (p : Piece) (x : Read Extensions) → 0 < length p.bytes → extension_at s p ≡ Ok x → Begun ExtensionOf s p x
  extension_back s p x _ e =
      let w = frame_back s p x e in
      record {
        bytes = w.bytes;
        rest = w.rest;
        one = held_back s x.value w.name w.bytes w.on w.held w.framed (extension_of w.name) refl w.new w.holds;
        whole = w.whole;
        long = w.long;
        some = w.some;
      }

  chain_some : (s u : Extensions) (bs : List ℕ) (c : Claim) → Chain ExtensionOf s u bs → s.info ≡ None → u.info ≡ Some c → 0 < length bs
  chain_some s _ _ c done e f = absurd (grind arith)
  chain_some s u _ c (more {t = t} {v = v} {bs = bs} o rest) e f = omega (arith, (extension_forth s t v bs 0 o).0, length-append v bs)

  pub carried_read : (c : Claim) (m : List ℕ) → Carries c m → message_of m ≡ Ok c
  carried_read _ _ (carries {c = c} {b = b} {bs = bs} {m = m} w k stand) =
      let h = kind_whole is_sequence 0x30 bs m 0 (λ p. refl) k in
      let i : 0 < length bs = chain_some no_extensions (record { info = Some c; instance = b }) bs c w refl refl in
      onward_ok _ _ _ h.3
      ∙ need_true _ _ _ (lt-ltb 0 (length bs) i)
      ∙ onward_ok _ _ _ (chain_forth extension_at ExtensionOf extension_forth no_extensions (record { info = Some c; instance = b }) bs (0 + h.0) w)
      ∙ need_true _ _ _ stand

  pub read_carried : (c : Claim) (m : List ℕ) → message_of m ≡ Ok c → Carries c m
  read_carried c m e =
      let h = onward_back (item_at is_sequence (whole_of m)) _ _ e in
      let a = need_back (some h.0.content) _ _ _ h.2 in
      let x = onward_back (elements_in extension_at no_extensions h.0.content) _ _ a.1 in
      let d = or_refuse_back x.0.info _ _ _ x.2 in
      let k = chain_back extension_at ExtensionOf extension_back no_extensions x.0 h.0.content x.1 in
      carries_back m h.0 d.0 c x.0 (sequence_was (whole_of m) h.0 h.1) k d.1 d.2

  pub read_as_carried : (m : List ℕ) → ReadAsCarried m
  read_as_carried m = record {
    read = λ c e. (
        let k = keeps_back (message_of m) _ _ e in
        let P : Claim → Type 0 = λ y. Carries y m in
        subst P (one_same k.0 c k.2) (read_carried k.0 m k.1));
    written = λ c w. ap (λ (r : Outcome Claim). keeps r (λ d. d ∷ [])) (carried_read c m w);
  }
