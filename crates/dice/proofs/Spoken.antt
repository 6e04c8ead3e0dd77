use Rattle.std.proofs.Common.{◌≡◌, ℕ, ◌+◌, ◌-◌, ◌%◌, ◌<◌, true, ◌&&◌, eqb, ltb, leb, List, ◌++◌, length, get_or, Some, Ok, sym, refl, ap, ◌∙◌, subst, inl, inr, arith, lit<}
use Rattle.std.proofs.lemmas.List.{length-append}
use Rattle.std.proofs.lemmas.Bool.{lt-ltb, ltb-true, leb-true, le-leb, eqb-true, and_from, and_parts}
use Rattle.std.proofs.lemmas.Bool.Decides.{nat_tests}
use Rattle.refusals.specs.Reading.{above}
use Rattle.claims.proofs.Kept.{kept_from_lem, kept_within}
use Rattle.claims.specs.Bytes.{kept_from}
use Rattle.claims.specs.Values.{with_digests}
use Rattle.claims.specs.declared.kinds.Bytes.{Bytes}
use Rattle.claims.specs.declared.kinds.Digests.{Digests}
use Rattle.claims.specs.declared.kinds.Flags.{Flags}
use Rattle.claims.specs.declared.kinds.Environment.{Environment}
use Rattle.claims.specs.declared.kinds.Values.{Values}
use Rattle.claims.specs.declared.kinds.Claim.{Claim}
use Rattle.der.specs.Contents.{bytes_in, integer_in, shortest}
use Rattle.der.specs.Encodes.{Coded, Number, number}
use Rattle.der.specs.Items.{shape_of, item_of}
use Rattle.parts.specs.Parts.{some, none}
use Rattle.der.specs.Kinds.{is_field, is_sequence, item_at}
use Rattle.parts.specs.Parts.{Piece}
use Rattle.parts.specs.Holders.{elements_in}
use Rattle.parts.specs.declared.kinds.Read.{Read}
use Rattle.der.proofs.Back.{Begun, item_back, chain_back, integer_back}
use Rattle.der.proofs.Encoded.{item_forth, chain_forth, integer_forth}
use Rattle.refusals.proofs.Outcomes.{onward_back, keeps_back, need_back, or_refuse_back, need_true, ok_same, cond_back}
use Rattle.dice.specs.Flags.{padded, flags_in}
use Rattle.dice.specs.Digests.{digests_in}
use Rattle.dice.specs.Fields.{in_environment, in_values, formed, environment_field, value_field, of_values, field_says, field_at, no_fields, info_in}
use Rattle.dice.specs.Layout.{Kept, kept, Bits, bits, Says, vendor, model, version, svn, layer, index, digests, flags, raw, class, FieldOf, field_of, Writes}
use Rattle.dice.specs.declared.kinds.Fields.{Fields}
use Rattle.dice.proofs.Items.{kind_whole, kind_back}
use Rattle.dice.proofs.Gathers.{nothing_left, sequence_fits, size_was, digests_forth, digests_back}

-- contents, there and back

bytes_forth : (N least at : ℕ) (x : Bytes N) (c : List ℕ) → Kept N least x c → bytes_in N least at c ≡ Ok x
bytes_forth N least at _ c (kept low high) = rw (kept_within N least c low high)

bytes_back : (N least at : ℕ) (x : Bytes N) (c : List ℕ) → bytes_in N least at c ≡ Ok x → Kept N least x c
bytes_back N least at x c e =
    let a = or_refuse_back (kept_from N least c) _ _ x e in
    let k = kept_from_lem N least c a.0 a.1 in
    let P : Bytes N → Type 0 = λ y. Kept N least y c in
    subst P (k.0 ∙ ok_same _ x a.2) (kept k.1 k.2)

flags_forth : (at : ℕ) (f : Flags) (c : List ℕ) → Bits f c → flags_in at c ≡ Ok f
flags_forth at _ c (bits some few small pad) =
    need_true _ _ _ (lt-ltb 0 (length c) some)
    ∙ need_true _ _ _ (and_from _ _ (le-leb (length c) 5 few) (le-leb (get_or c 0 0) 7 small))
    ∙ need_true _ _ _ pad

flags_back : (at : ℕ) (f : Flags) (c : List ℕ) → flags_in at c ≡ Ok f → Bits f c
flags_back at f c e =
    let a = need_back (ltb 0 (length c)) _ _ f e in
    let b = need_back (leb (length c) 5 && leb (get_or c 0 0) 7) _ _ f a.1 in
    let d = need_back (padded c) _ _ f b.1 in
    let t = and_parts (leb (length c) 5) (leb (get_or c 0 0) 7) b.0 in
    let P : Flags → Type 0 = λ g. Bits g c in
    subst P (ok_same _ f d.1) (bits (ltb-true _ _ a.0) (leb-true _ _ t.0) (leb-true _ _ t.1) d.0)

-- what a field says, there

record Spoken (s t : Claim) (tag at from : ℕ) (c : List ℕ) : Type 0 where
  field : is_field (shape_of tag (record { at = from; bytes = c })) ≡ Some (tag, record { at = from; bytes = c })
  formed : formed tag c ≡ true
  says : field_says s tag at (record { at = from; bytes = c }) ≡ Ok t

shortest_of : (most n : ℕ) (c : List ℕ) → Number most n c → shortest c ≡ true
shortest_of most _ c (number short first few) = short

some_of : (f : Flags) (c : List ℕ) → Bits f c → ltb 0 (length c) ≡ true
some_of _ c (bits some few small pad) = lt-ltb 0 (length c) some

says_forth : (s t : Claim) (tag at from : ℕ) (c : List ℕ) → Says s tag t c → Spoken s t tag at from c
says_forth s _ _ at from c (vendor {x = x} k) = record { field = refl; formed = refl; says = rw (bytes_forth 32 1 at x c k) }
says_forth s _ _ at from c (model {x = x} k) = record { field = refl; formed = refl; says = rw (bytes_forth 32 1 at x c k) }
says_forth s _ _ at from c (version {x = x} k) = record { field = refl; formed = refl; says = rw (bytes_forth 32 1 at x c k) }
says_forth s _ _ at from c (svn {n = n} k) = record { field = refl; formed = shortest_of 4294967295 n c k; says = rw (integer_forth 4294967295 at n c (lit< tt) k) }
says_forth s _ _ at from c (layer {n = n} k) = record { field = refl; formed = shortest_of 65535 n c k; says = rw (integer_forth 65535 at n c (lit< tt) k) }
says_forth s _ _ at from c (index {n = n} k) = record { field = refl; formed = shortest_of 65535 n c k; says = rw (integer_forth 65535 at n c (lit< tt) k) }
says_forth s _ _ at from c (digests {d = d} h k) = record { field = refl; formed = refl; says = rw (digests_forth d c at from h k) }
says_forth s _ _ at from c (flags {f = f} k) = record { field = refl; formed = some_of f c k; says = rw (flags_forth at f c k) }
says_forth s _ _ at from c (raw {x = x} k) = record { field = refl; formed = refl; says = rw (bytes_forth 64 1 at x c k) }
says_forth s _ _ at from c (class {x = x} k) = record { field = refl; formed = refl; says = rw (bytes_forth 32 1 at x c k) }

-- and back

leaf : (s : Claim) (tag known : ℕ) (t u : Claim) (c : List ℕ) → eqb tag known ≡ true → known % 32 < 31 → t ≡ u → Says s known t c → Says s tag u c × (tag % 32 < 31)
leaf s tag known t u c k one e says =
    let P : ℕ → Type 0 = λ n. Says s n u c × (n % 32 < 31) in
    let Q : Claim → Type 0 = λ x. Says s known x c in
    subst P (sym (eqb-true tag known k)) (subst Q e says, one)

values_back : (s : Claim) (w : Values) (tag at : ℕ) (p : Piece) → value_field s.values tag at p ≡ Ok w → Says s tag (in_values s w) p.bytes × (tag % 32 < 31)
values_back s w tag at p e =
    elim (cond_back (eqb tag 0x82) _ _ _ e) [
      | inl a ↦
          let k = keeps_back (bytes_in 32 1 at p.bytes) _ w a.1 in
          leaf s tag 0x82 _ _ p.bytes a.0 (lit< tt) (ap (in_values s) k.2) (version (bytes_back 32 1 at k.0 p.bytes k.1))
      | inr a ↦ elim (cond_back (eqb tag 0x83) _ _ _ a.1) [
        | inl b ↦
            let k = keeps_back (integer_in 4294967295 at p.bytes) _ w b.1 in
            leaf s tag 0x83 _ _ p.bytes b.0 (lit< tt) (ap (in_values s) k.2) (svn (integer_back 4294967295 at k.0 p.bytes k.1))
        | inr b ↦ elim (cond_back (eqb tag 0xA6) _ _ _ b.1) [
          | inl d ↦
              let k = keeps_back (digests_in at p) _ w d.1 in
              let g = digests_back k.0 at p k.1 in
              leaf s tag 0xA6 _ _ p.bytes d.0 (lit< tt) (ap (λ (x : Digests). in_values s (with_digests s.values x)) g.3 ∙ ap (in_values s) k.2) (digests g.1 g.2)
          | inr d ↦ elim (cond_back (eqb tag 0x87) _ _ _ d.1) [
            | inl f ↦
                let k = keeps_back (flags_in at p.bytes) _ w f.1 in
                leaf s tag 0x87 _ _ p.bytes f.0 (lit< tt) (ap (in_values s) k.2) (flags (flags_back at k.0 p.bytes k.1))
            | inr f ↦ elim (cond_back (eqb tag 0x88) _ _ _ f.1) [
              | inl g ↦
                  let k = keeps_back (bytes_in 64 1 at p.bytes) _ w g.1 in
                  leaf s tag 0x88 _ _ p.bytes g.0 (lit< tt) (ap (in_values s) k.2) (raw (bytes_back 64 1 at k.0 p.bytes k.1))
              | inr g ↦ absurd (grind arith)
            ]
          ]
        ]
      ]
    ]

environment_back : (s : Claim) (w : Environment) (tag at : ℕ) (c : List ℕ) → environment_field s.environment tag at c ≡ Ok w → Says s tag (in_environment s w) c × (tag % 32 < 31)
environment_back s w tag at c e =
    elim (cond_back (eqb tag 0x80) _ _ _ e) [
      | inl a ↦
          let k = keeps_back (bytes_in 32 1 at c) _ w a.1 in
          leaf s tag 0x80 _ _ c a.0 (lit< tt) (ap (in_environment s) k.2) (vendor (bytes_back 32 1 at k.0 c k.1))
      | inr a ↦ elim (cond_back (eqb tag 0x81) _ _ _ a.1) [
        | inl b ↦
            let k = keeps_back (bytes_in 32 1 at c) _ w b.1 in
            leaf s tag 0x81 _ _ c b.0 (lit< tt) (ap (in_environment s) k.2) (model (bytes_back 32 1 at k.0 c k.1))
        | inr b ↦ elim (cond_back (eqb tag 0x84) _ _ _ b.1) [
          | inl d ↦
              let k = keeps_back (integer_in 65535 at c) _ w d.1 in
              leaf s tag 0x84 _ _ c d.0 (lit< tt) (ap (in_environment s) k.2) (layer (integer_back 65535 at k.0 c k.1))
          | inr d ↦ elim (cond_back (eqb tag 0x85) _ _ _ d.1) [
            | inl f ↦
                let k = keeps_back (integer_in 65535 at c) _ w f.1 in
                leaf s tag 0x85 _ _ c f.0 (lit< tt) (ap (in_environment s) k.2) (index (integer_back 65535 at k.0 c k.1))
            | inr f ↦ elim (cond_back (eqb tag 0x89) _ _ _ f.1) [
              | inl g ↦
                  let k = keeps_back (bytes_in 32 1 at c) _ w g.1 in
                  leaf s tag 0x89 _ _ c g.0 (lit< tt) (ap (in_environment s) k.2) (class (bytes_back 32 1 at k.0 c k.1))
              | inr g ↦ absurd (grind arith)
            ]
          ]
        ]
      ]
    ]

says_back : (s t : Claim) (tag at : ℕ) (p : Piece) → field_says s tag at p ≡ Ok t → Says s tag t p.bytes × (tag % 32 < 31)
says_back s t tag at p e =
    let P : Claim → Type 0 = λ x. Says s tag x p.bytes × (tag % 32 < 31) in
    elim (cond_back (of_values tag) _ _ _ e) [
      | inl a ↦ let k = keeps_back (value_field s.values tag at p) _ t a.1 in subst P k.2 (values_back s k.0 tag at p k.1)
      | inr a ↦ let k = keeps_back (environment_field s.environment tag at p.bytes) _ t a.1 in subst P k.2 (environment_back s k.0 tag at p.bytes k.1)
    ]

-- one field

pub field_forth : (s t : Fields) (v rest : List ℕ) (at : ℕ) → FieldOf s t v
    → (0 < length v) × (field_at s (record { at = at; bytes = v ++ rest }) ≡ Ok (record { value = t; size = length v }))
field_forth s _ v rest at (field_of {tag = tag} {t = t} {c = c} k r says) =
    let f = item_forth tag c v rest at k in
    let w = says_forth s.claim t tag at (at + f.header) c says in
    let size : length (v ++ rest) - length rest ≡ length v = omega (arith, length-append v rest) in
    (omega (arith, f.long, f.some), rw (f.reads, w.field, w.formed, r, w.says, size))

field_fits : (t : ℕ) (q : Piece) (y : ℕ × Piece) → is_field (shape_of t q) ≡ Some y → (t ≡ y.0) × (q ≡ y.1)
field_fits t q y e =
    let z : (t, q) ≡ y = grind (arith, nat_tests) in
    (ap (λ (x : ℕ × Piece). x.0) z, ap (λ (x : ℕ × Piece). x.1) z)

field_back : (s : Fields) (p : Piece) (x : Read Fields) → 0 < length p.bytes → field_at s p ≡ Ok x → Begun FieldOf s p x
field_back s p x some e =
    let a = or_refuse_back (item_of p) _ _ x e in
    let i = item_back p a.0 a.1 in
    let b = or_refuse_back (is_field a.0.item) _ _ x a.2 in
    let y : ℕ × Piece = b.0 in
    let d = need_back (formed y.0 y.1.bytes) _ _ x b.2 in
    let g = need_back (above s.last (y.0 % 32)) _ _ x d.1 in
    let h = onward_back (field_says s.claim y.0 p.at y.1) _ x g.1 in
    let w = says_back s.claim h.0 y.0 p.at y.1 h.1 in
    let k = field_fits i.tag (record { at = p.at + i.header; bytes = i.content }) y (ap is_field (sym i.item) ∙ b.1) in
    let same = ok_same _ x h.2 in
    let known : i.tag % 32 < 31 = rw k.0 w.1 in
    let P : ℕ → Type 0 = λ n. Coded n i.content i.bytes in
    let Q : List ℕ → Type 0 = λ l. Coded y.0 l i.bytes in
    let R : Fields → Type 0 = λ t. FieldOf s t i.bytes in
    record {
      bytes = i.bytes;
      rest = i.rest;
      one = subst R (ap (λ (z : Read Fields). z.value) same)
          (field_of (subst Q (ap (λ (q : Piece). q.bytes) k.1) (subst P k.0 (i.known known))) g.0 w.0);
      whole = i.whole;
      long = size_was p i.bytes i.rest a.0.rest (p.at + length i.bytes) i.whole i.behind ∙ ap (λ (z : Read Fields). z.size) same;
      some = i.some;
    }

-- all fields

pub info_forth : (c : Claim) (fields x : List ℕ) (at from : ℕ) → Writes c fields → 0 < length fields → Coded 0x30 fields x
    → info_in at (record { at = from; bytes = x }) ≡ Ok c
info_forth c fields x at from w some k =
    let h = kind_whole is_sequence 0x30 fields x from (λ p. refl) k in
    need_true _ _ _ (lt-ltb 0 (length x) (omega (arith, h.1, h.2)))
    ∙ rw h.3 (need_true _ _ _ (lt-ltb 0 (length fields) some)
    ∙ rw (chain_forth field_at FieldOf field_forth no_fields (record { last = w.0; claim = c }) fields (from + h.0) w.1))

pub info_back : (c : Claim) (at : ℕ) (p : Piece) → info_in at p ≡ Ok c → (fields : List ℕ) × Writes c fields × (0 < length fields) × Coded 0x30 fields p.bytes
info_back c at p e =
    let a = need_back (some p) _ _ c e in
    let b = onward_back (item_at is_sequence p) _ c a.1 in
    let d = need_back (some b.0.content) _ _ c b.2 in
    let f = onward_back (elements_in field_at no_fields b.0.content) _ c d.1 in
    let g = need_back (none b.0.rest) _ _ c f.2 in
    let w = kind_back is_sequence 48 (lit< tt) sequence_fits p b.0 b.1 in
    let inside : b.0.content.bytes ≡ w.content = ap (λ (q : Piece). q.bytes) w.inside in
    let chain = chain_back field_at FieldOf field_back no_fields f.0 b.0.content f.1 in
    let whole = nothing_left p w.bytes w.rest b.0.rest (p.at + length w.bytes) w.whole w.behind g.0 in
    let P : List ℕ → Type 0 = λ l. Coded 0x30 w.content l in
    let Q : List ℕ → Type 0 = λ l. Coded 0x30 l p.bytes in
    let R : Claim → Type 0 = λ t. Writes t b.0.content.bytes in (
      b.0.content.bytes,
      subst R (ok_same _ c g.1) (f.0.last, chain),
      ltb-true _ _ d.0,
      subst Q (sym inside) (subst P (sym whole) w.coded),
    )
