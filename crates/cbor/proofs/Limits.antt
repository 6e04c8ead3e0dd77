use Rattle.std.proofs.Common.{◌≡◌, ℕ, zero, suc, ◌+◌, ◌<◌, ◌≤◌, Bool, true, cond, eqb, ltb, leb, None, Ok, Err, Option, arith}
use Rattle.std.proofs.lemmas.Bool.{eqb-true, leb-true, ltb-true}
use Rattle.refusals.specs.Reading.{Outcome, onward, need, or_refuse, above}
use Rattle.refusals.specs.declared.Refusal.{Refusal}
use Rattle.refusals.specs.declared.Refusal.TheVariants.{Malformed, Unknown, OutOfLimits, Missing}
use Rattle.claims.specs.Bytes.{kept_from}
use Rattle.claims.specs.Limits.{Holds}
use Rattle.claims.proofs.Kept.{kept_holds}
use Rattle.parts.specs.Holders.{Element}
use Rattle.parts.specs.Parts.{Piece, after}
use Rattle.parts.specs.declared.kinds.Read.{Read}
use Rattle.refusals.specs.Figures.{OfReader}
use Rattle.parts.proofs.Sound.{Sound, sound_onward, sound_keeps, sound_need, sound_or_refuse, sound_cond}
use Rattle.cbor.specs.declared.kinds.Keyed.{Keyed}
use Rattle.cbor.specs.Items.{Shape, item_of, is_unsigned, is_bytes, is_text, is_array, is_map, is_tag, is_truth}
use Rattle.cbor.specs.Scalars.{Rule, stores, then, item_as, number_at, number_to, truth_at, map_at, array_of, string_at, text_at, bytes_at, tag_at, tagged_bytes}
use Rattle.cbor.specs.Holders.{counted_from, array_by, Under, entry_at, map_by}

-- what a rule reads is within its limits, and its refusals are those of a reader

-- what was read has a property
abbrev pub Of : {A : Type 0} → (A → Type 0) → Read A → Type 0
Of P x = P x.value

pub record Yields {A : Type 0} (P : A → Type 0) (rule : Rule A) : Type 0 where
  pub sound : (p : Piece) → Sound (Of P) (rule p)

abbrev pub Any : {A : Type 0} → A → Type 0
Any x = Unit {0}

-- items

pub sound_item : {A : Type 0} (kind : Shape → Option A) → Yields Any (item_as kind)
sound_item kind = record {
  sound = λ p.
      sound_or_refuse _ (item_of p) (Malformed p.at) _ (omega arith, omega arith) (λ f e.
      sound_or_refuse _ (kind f.item) (Malformed p.at) _ (omega arith, omega arith) (λ x k. tt));
}

-- rules made of sound rules
module _ {A : Type 0} {P : A → Type 0} {rule : Rule A} (yields : Yields P rule) where
  -- what was read goes on to something else
  pub sound_by : {B : Type 0} {Q : B → Type 0} (go : Piece → Read A → Outcome (Read B)) → ((p : Piece) (x : Read A) → P x.value → Sound (Of Q) (go p x)) → Yields Q (λ p. onward (rule p) (go p))
  sound_by {Q = Q} go next = record { sound = λ p. sound_onward (Of P) (Of Q) (rule p) (go p) (yields.sound p) (next p) }

  pub sound_such : (test : A → Bool) (e : Piece → Refusal) → ((p : Piece) → OfReader (e p)) → Yields (λ x. P x × (test x ≡ true)) (λ p. onward (rule p) (λ x. need (test x.value) (e p) (Ok x)))
  sound_such test e of =
      sound_by (λ p x. need (test x.value) (e p) (Ok x)) (λ p x h. sound_need (Of (λ (y : A). P y × (test y ≡ true))) (test x.value) (e p) (Ok x) (of p) (λ k. (h, k)))

  pub sound_stores : {B : Type 0} {Q : B → Type 0} (f : A → B) → ((x : A) → P x → Q (f x)) → Yields Q (λ p. stores (rule p) f)
  sound_stores {Q = Q} f to = record { sound = λ p. sound_keeps (Of P) (Of Q) (rule p) _ (yields.sound p) (λ x h. to x.value h) }

  -- the same with less said of it
  pub sound_as : {Q : A → Type 0} → ((x : A) → P x → Q x) → Yields Q rule
  sound_as {Q = Q} to = record { sound = λ p. weaker (rule p) (yields.sound p) }
    where
      weaker : (r : Outcome (Read A)) → Sound (Of P) r → Sound (Of Q) r
      weaker (Ok x) h = to x.value h
      weaker (Err e) h = h

  pub sound_then : {B : Type 0} {Q : B → Type 0} {second : A → Rule B} → ((x : A) → P x → Yields Q (second x)) → Yields Q (then rule second)
  sound_then {Q = Q} {second = second} next = record {
    sound = λ p.
        sound_onward (Of P) (Of Q) (rule p) _ (yields.sound p) (λ x h.
        sound_keeps (Of Q) (Of Q) (second x.value (after x.size p)) _ ((next x.value h).sound (after x.size p)) (λ y k. k));
  }

-- scalars

pub sound_number : Yields Any number_at
sound_number = sound_item is_unsigned

pub sound_truth : Yields Any truth_at
sound_truth = sound_item is_truth

pub sound_number_to : (most : ℕ) → Yields (λ n. n ≤ most) (number_to most)
sound_number_to most = sound_as (sound_such sound_number (λ n. leb n most) (λ p. OutOfLimits p.at) (λ p. (omega arith, omega arith))) (λ n h. leb-true n most h.1)

pub sound_array_of : (count : ℕ) → Yields (λ n. n ≡ count) (array_of count)
sound_array_of count = sound_as (sound_such (sound_item is_array) (λ n. eqb n count) (λ p. Malformed p.at) (λ p. (omega arith, omega arith))) (λ n h. eqb-true n count h.1)

sound_string : (kind : Shape → Option Piece) (N least : ℕ) → Yields (Holds least) (string_at kind N least)
sound_string kind N least =
    sound_by (sound_item kind) (λ p s. or_refuse (kept_from N least s.value.bytes) (OutOfLimits p.at) (λ b. Ok (record { value = b; size = s.size }))) (λ p s h.
    sound_or_refuse _ (kept_from N least s.value.bytes) (OutOfLimits p.at) _ (omega arith, omega arith) (λ b e. kept_holds N least s.value.bytes b e))

pub sound_text : (N least : ℕ) → Yields (Holds least) (text_at N least)
sound_text = sound_string is_text

pub sound_bytes : (N least : ℕ) → Yields (Holds least) (bytes_at N least)
sound_bytes = sound_string is_bytes

pub sound_tagged_bytes : (tag N least : ℕ) → Yields (Holds least) (tagged_bytes tag N least)
sound_tagged_bytes tag N least = record {
  sound = λ p.
      sound_onward (Of Any) (Of (Holds least)) (tag_at p) _ ((sound_item is_tag).sound p) (λ t _.
      sound_need _ (eqb t.value tag) (Malformed p.at) _ (omega arith, omega arith) (λ _.
      sound_or_refuse _ (item_of (after t.size p)) (Malformed p.at) _ (omega arith, omega arith) (λ f _.
      sound_or_refuse _ (is_bytes f.item) (Malformed p.at) _ (omega arith, omega arith) (λ c _.
      sound_or_refuse _ (kept_from N least c.bytes) (OutOfLimits p.at) _ (omega arith, omega arith) (λ b e. kept_holds N least c.bytes b e)))));
}

-- fields by their keys

pub sound_field : {F : Type 0} {P : F → Type 0} {rule rest : Rule F} (b : Bool) → Yields P rule → Yields P rest → Yields P (λ p. cond b (rule p) (rest p))
sound_field {P = P} {rule = rule} {rest = rest} b here next = record { sound = λ p. sound_cond (Of P) b (rule p) (rest p) (here.sound p) (next.sound p) }

pub sound_where : {F : Type 0} {P : F → Type 0} {rule : Rule F} (b : Bool) (e : Refusal) → OfReader e → (b ≡ true → Yields P rule) → Yields P (λ p. need b e (rule p))
sound_where {P = P} {rule = rule} b e of here = record { sound = λ p. sound_need (Of P) b e (rule p) of (λ h. (here h).sound p) }

pub sound_unknown : {F : Type 0} {P : F → Type 0} (at : ℕ) → Yields P (λ p. Err (Unknown at))
sound_unknown at = record { sound = λ p. (omega arith, omega arith) }

-- what each element keeps, the whole keeps

pub sound_counted : {S : Type 0} (P : S → Type 0) (element : Element S) → ((s : S) → P s → Yields P (element s)) → (n : ℕ) (s : S) (used : ℕ) → P s → Yields P (counted_from element n s used)
sound_counted {S} P element each n s used h = record { sound = λ p. steps n s used p h }
  where
    steps : (k : ℕ) (t : S) (i : ℕ) (p : Piece) → P t → Sound (Of P) (counted_from element k t i p)
    steps zero t i p k = k
    steps (suc n) t i p k = sound_onward (Of P) (Of P) (element t (after i p)) _ ((each t k).sound (after i p)) (λ r l. steps n r.value (i + r.size) p l)

pub sound_array : {S : Type 0} (P : S → Type 0) (element : Element S) → ((s : S) → P s → Yields P (element s)) → (s : S) → P s → Yields P (array_by element s)
sound_array P element each s h =
    sound_by (sound_item is_array) (λ p n. need (ltb 0 n.value) (Missing p.at) (counted_from element n.value s n.size p)) (λ p n _.
    sound_need (Of P) (ltb 0 n.value) (Missing p.at) _ (omega arith, omega arith) (λ _. (sound_counted P element each n.value s n.size h).sound p))

-- an array or a map that is not empty has what each of its elements or fields brings

module _ {S : Type 0} (P Q : S → Type 0) (element : Element S) (weaker : (s : S) → Q s → P s) (each : (s : S) → P s → Yields Q (element s)) where
  brings_counted : (n : ℕ) (s : S) (used : ℕ) → 0 < n → P s → Yields Q (counted_from element n s used)
  brings_counted zero s used positive h = absurd (omega arith)
  brings_counted (suc n) s used positive h = record {
    sound = λ p.
        sound_onward (Of Q) (Of Q) (element s (after used p)) _ ((each s h).sound (after used p)) (λ r k.
        (sound_counted Q element (λ t l. each t (weaker t l)) n r.value (used + r.size) k).sound p);
  }

  pub sound_array_brings : (s : S) → P s → Yields Q (array_by element s)
  sound_array_brings s h =
      sound_by (sound_item is_array) (λ p n. need (ltb 0 n.value) (Missing p.at) (counted_from element n.value s n.size p)) (λ p n _.
      sound_need (Of Q) (ltb 0 n.value) (Missing p.at) _ (omega arith, omega arith) (λ positive. (brings_counted n.value s n.size (ltb-true _ _ positive) h).sound p))

module _ {F : Type 0} (P Q : F → Type 0) (under : Under F) (weaker : (s : F) → Q s → P s) (each : (s : F) (key at : ℕ) → P s → Yields Q (under s key at)) where
  abbrev Had : Keyed F → Type 0
  Had s = P s.fields

  abbrev Has : Keyed F → Type 0
  Has s = Q s.fields

  brings_entry : (s : Keyed F) → Had s → Yields Has (entry_at under s)
  brings_entry s h = record {
    sound = λ p.
        sound_onward (Of Any) (Of Has) (number_at p) _ (sound_number.sound p) (λ key _.
        sound_need (Of Has) (above s.last key.value) (Unknown p.at) _ (omega arith, omega arith) (λ _.
        sound_onward (Of Q) (Of Has) (under s.fields key.value p.at (after key.size p)) _ ((each s.fields key.value p.at h).sound (after key.size p)) (λ x k. k)));
  }

  pub sound_map_brings : (s : F) → P s → Yields Q (map_by under s)
  sound_map_brings s h = record {
    sound = λ p.
        sound_onward (Of Any) (Of Q) (map_at p) _ ((sound_item is_map).sound p) (λ n _.
        sound_need (Of Q) (ltb 0 n.value) (Missing p.at) _ (omega arith, omega arith) (λ positive.
        sound_keeps (Of Has) (Of Q) (counted_from (entry_at under) n.value (record { last = None; fields = s }) n.size p) _
        ((brings_counted Had Has (entry_at under) (λ t. weaker t.fields) brings_entry n.value (record { last = None; fields = s }) n.size (ltb-true _ _ positive) h).sound p) (λ r k. k)));
  }

-- what each field keeps, the map keeps
pub sound_map : {F : Type 0} (P : F → Type 0) (under : Under F) → ((s : F) (key at : ℕ) → P s → Yields P (under s key at)) → (s : F) → P s → Yields P (map_by under s)
sound_map P under each = sound_map_brings P P under (λ s k. k) each
