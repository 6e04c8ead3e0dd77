use Rattle.std.proofs.Common.{◌≡◌, ℕ, ◌+◌, ◌-◌, ◌<◌, true, false, not, List, ◌++◌, length, Some, Ok, sym, refl, ap, ◌∙◌, subst, arith}
use Rattle.std.proofs.lemmas.List.{append-nil, length-append, nil_from_length}
use Rattle.std.proofs.lemmas.Bool.{lt-ltb, ltb-true, eqb-true, not-true}
use Rattle.std.proofs.lemmas.Bool.Decides.{nat_tests}
use Rattle.claims.specs.Digests.{no_digests, with_digest, has_digest}
use Rattle.claims.specs.declared.kinds.Algorithm.{Algorithm}
use Rattle.claims.specs.declared.kinds.Digests.{Digests}
use Rattle.der.specs.Encodes.{Coded, Chain}
use Rattle.der.specs.Items.{shape_of}
use Rattle.parts.specs.Parts.{some, none, before}
use Rattle.der.specs.Kinds.{is_octets, is_identifier, is_sequence, item_at}
use Rattle.parts.specs.Parts.{Piece}
use Rattle.parts.specs.declared.kinds.Read.{Read}
use Rattle.der.proofs.Back.{Begun, chain_back}
use Rattle.der.proofs.Encoded.{chain_forth}
use Rattle.refusals.proofs.Outcomes.{onward_back, keeps_back, need_back, or_refuse_back, need_true, ok_same}
use Rattle.dice.specs.Names.{algorithm_named}
use Rattle.dice.specs.Digests.{digest_value, digest_parts, digest_at, digests_in}
use Rattle.dice.specs.Layout.{DigestOf, digest}
use Rattle.dice.specs.declared.kinds.Gathered.{Gathered}
use Rattle.dice.proofs.Items.{kind_forth, kind_whole, kind_back}

pub octets_fit : (t : ℕ) (p q : Piece) → is_octets (shape_of t p) ≡ Some q → (t ≡ 4) × (p ≡ q)
octets_fit t p q e = grind (arith, nat_tests)

pub identifier_fits : (t : ℕ) (p q : Piece) → is_identifier (shape_of t p) ≡ Some q → (t ≡ 6) × (p ≡ q)
identifier_fits t p q e = grind (arith, nat_tests)

pub sequence_fits : (t : ℕ) (p q : Piece) → is_sequence (shape_of t p) ≡ Some q → (t ≡ 48) × (p ≡ q)
sequence_fits t p q e = grind (arith, nat_tests)

-- there

value_forth : (s t : Digests) (algorithm : Algorithm) (c e : List ℕ) (at from : ℕ) → Coded 0x04 c e → with_digest s algorithm c ≡ Some t
    → digest_value s algorithm at (record { at = from; bytes = e }) ≡ Ok t
value_forth s t algorithm c e at from k w =
    let v = kind_whole is_octets 0x04 c e from (λ p. refl) k in
    need_true _ _ _ (lt-ltb 0 (length e) (omega (arith, v.1, v.2))) ∙ rw (v.3, w)

parts_forth : (s t : Digests) (algorithm : Algorithm) (name c a e : List ℕ) (at from : ℕ) → algorithm_named name ≡ Some algorithm → has_digest s algorithm ≡ false
    → with_digest s algorithm c ≡ Some t → Coded 0x06 name a → Coded 0x04 c e → digest_parts s at (record { at = from; bytes = a ++ e }) ≡ Ok t
parts_forth s t algorithm name c a e at from named new w k l =
    let n = kind_forth is_identifier 0x06 name a e from (λ p. refl) k in
    need_true _ _ _ (lt-ltb 0 (length (a ++ e)) (omega (arith, n.long, n.some, length-append a e)))
    ∙ rw (n.reads, named, new) (value_forth s t algorithm c e at (from + length a) l w)

digest_forth : (s t : Gathered) (v rest : List ℕ) (at : ℕ) → DigestOf s t v
    → (0 < length v) × (digest_at s (record { at = at; bytes = v ++ rest }) ≡ Ok (record { value = t; size = length v }))
digest_forth s _ v rest at (digest {algorithm = algorithm} {t = t} {name = name} {c = c} {a = a} {e = e} named new w k l q) =
    let f = kind_forth is_sequence 0x30 (a ++ e) v rest at (λ p. refl) q in
    let size : length (v ++ rest) - length rest ≡ length v = omega (arith, length-append v rest) in (
      omega (arith, f.long, f.some),
      rw (f.reads, parts_forth s.digests t algorithm name c a e at (at + f.header) named new w k l, size),
    )

-- and back

record ValueWas (s t : Digests) (algorithm : Algorithm) (bytes : List ℕ) : Type 0 where
  content : List ℕ
  coded : Coded 0x04 content bytes
  kept : with_digest s algorithm content ≡ Some t

pub nothing_left : (p : Piece) (bytes rest : List ℕ) (q : Piece) (at : ℕ) → p.bytes ≡ bytes ++ rest → q ≡ record { at = at; bytes = rest } → none q ≡ true → p.bytes ≡ bytes
nothing_left p bytes rest q at whole e n =
    let z : length rest ≡ 0 = omega (arith, eqb-true _ _ n, ap (λ (x : Piece). length x.bytes) e) in
    whole ∙ ap (λ (l : List ℕ). bytes ++ l) (nil_from_length rest z) ∙ append-nil bytes

value_back : (s t : Digests) (algorithm : Algorithm) (at : ℕ) (p : Piece) → digest_value s algorithm at p ≡ Ok t → ValueWas s t algorithm p.bytes
value_back s t algorithm at p e =
    let a = need_back (some p) _ _ t e in
    let b = onward_back (item_at is_octets p) _ t a.1 in
    let c = or_refuse_back (with_digest s algorithm b.0.content.bytes) _ _ t b.2 in
    let d = need_back (none b.0.rest) _ _ t c.2 in
    let w = kind_back is_octets 4 (omega arith) octets_fit p b.0 b.1 in
    let whole = nothing_left p w.bytes w.rest b.0.rest (p.at + length w.bytes) w.whole w.behind d.0 in
    let P : List ℕ → Type 0 = λ l. Coded 0x04 w.content l in
    record {
      content = w.content;
      coded = subst P (sym whole) w.coded;
      kept = ap (λ (x : Piece). with_digest s algorithm x.bytes) (sym w.inside) ∙ c.1 ∙ ap (λ (x : Digests). Some x) (ok_same _ _ d.1);
    }

record PartsWere (s t : Digests) (bytes : List ℕ) : Type 0 where
  algorithm : Algorithm
  name : List ℕ
  content : List ℕ
  first : List ℕ
  second : List ℕ
  named : algorithm_named name ≡ Some algorithm
  new : has_digest s algorithm ≡ false
  kept : with_digest s algorithm content ≡ Some t
  identifier : Coded 0x06 name first
  value : Coded 0x04 content second
  whole : bytes ≡ first ++ second

parts_back : (s t : Digests) (at : ℕ) (p : Piece) → digest_parts s at p ≡ Ok t → PartsWere s t p.bytes
parts_back s t at p e =
    let a = need_back (some p) _ _ t e in
    let b = onward_back (item_at is_identifier p) _ t a.1 in
    let c = or_refuse_back (algorithm_named b.0.content.bytes) _ _ t b.2 in
    let d = need_back (not (has_digest s c.0)) _ _ t c.2 in
    let v = value_back s t c.0 at b.0.rest d.1 in
    let w = kind_back is_identifier 6 (omega arith) identifier_fits p b.0 b.1 in
    record {
      algorithm = c.0;
      name = w.content;
      content = v.content;
      first = w.bytes;
      second = b.0.rest.bytes;
      named = ap (λ (x : Piece). algorithm_named x.bytes) (sym w.inside) ∙ c.1;
      new = not-true _ d.0;
      kept = v.kept;
      identifier = w.coded;
      value = v.coded;
      whole = w.whole ∙ ap (λ (x : Piece). w.bytes ++ x.bytes) (sym w.behind);
    }

-- how many bytes stood before the rest
pub size_was : (p : Piece) (bytes rest : List ℕ) (q : Piece) (at : ℕ) → p.bytes ≡ bytes ++ rest → q ≡ record { at = at; bytes = rest } → length bytes ≡ before p q
size_was p bytes rest q at whole e =
    omega (arith, ap length whole, length-append bytes rest, ap (λ (x : Piece). length x.bytes) e)

digest_back : (s : Gathered) (p : Piece) (x : Read Gathered) → 0 < length p.bytes → digest_at s p ≡ Ok x → Begun DigestOf s p x
digest_back s p x h e =
    let a = onward_back (item_at is_sequence p) _ x e in
    let b = onward_back (digest_parts s.digests p.at a.0.content) _ x a.2 in
    let w = kind_back is_sequence 48 (omega arith) sequence_fits p a.0 a.1 in
    let k = parts_back s.digests b.0 p.at a.0.content b.1 in
    let same = ok_same _ x b.2 in
    let inside : w.content ≡ k.first ++ k.second = sym (ap (λ (q : Piece). q.bytes) w.inside) ∙ k.whole in
    let P : List ℕ → Type 0 = λ l. Coded 0x30 l w.bytes in
    let Q : Gathered → Type 0 = λ t. DigestOf s t w.bytes in
    record {
      bytes = w.bytes;
      rest = w.rest;
      one = subst Q (ap (λ (y : Read Gathered). y.value) same) (digest k.named k.new k.kept k.identifier k.value (subst P inside w.coded));
      whole = w.whole;
      long = size_was p w.bytes w.rest a.0.rest (p.at + length w.bytes) w.whole w.behind ∙ ap (λ (y : Read Gathered). y.size) same;
      some = w.some;
    }

abbrev empty : Gathered
empty = record { digests = no_digests }

pub digests_forth : (d : Gathered) (c : List ℕ) (at from : ℕ) → 0 < length c → Chain DigestOf empty d c → digests_in at (record { at = from; bytes = c }) ≡ Ok d.digests
digests_forth d c at from h k = need_true _ _ _ (lt-ltb 0 (length c) h) ∙ rw (chain_forth digest_at DigestOf digest_forth empty d c from k)

pub digests_back : (d : Digests) (at : ℕ) (p : Piece) → digests_in at p ≡ Ok d → (g : Gathered) × (0 < length p.bytes) × Chain DigestOf empty g p.bytes × (g.digests ≡ d)
digests_back d at p e =
    let a = need_back (some p) _ _ d e in
    let b = keeps_back _ (λ (s : Gathered). s.digests) d a.1 in
    (b.0, ltb-true _ _ a.0, chain_back digest_at DigestOf digest_back empty b.0 p b.1, b.2)
