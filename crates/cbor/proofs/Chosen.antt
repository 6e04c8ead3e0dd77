use Rattle.std.proofs.Common.{◌≡◌, ℕ, ◌+◌, ◌≤◌, Bool, true, eqb, length, Some, None, Ok, Option, sym, refl, ap, ◌∙◌, arith}
use Rattle.std.proofs.lemmas.Bool.{eq-eqb}
use Rattle.std.specs.Option.{option_map, ok_or}
use Rattle.refusals.specs.Reading.{Outcome, onward, need, or_refuse}
use Rattle.refusals.specs.declared.Refusal.{Refusal}
use Rattle.refusals.specs.declared.Refusal.TheVariants.{Malformed, OutOfLimits}
use Rattle.claims.specs.Bytes.{kept_from}
use Rattle.claims.specs.declared.kinds.Bytes.{Bytes}
use Rattle.parts.specs.Parts.{Piece, piece, after, before}
use Rattle.parts.specs.Reads.{of_size}
use Rattle.parts.specs.declared.kinds.Part.{Part}
use Rattle.parts.specs.declared.kinds.Read.{Read}
use Rattle.cbor.specs.Items.{Shape, shape, Front, taken, item_of, is_bytes, ChosenFrom}
use Rattle.cbor.specs.Scalars.{tag_at, tagged_bytes}
use Rattle.cbor.specs.declared.kinds.Item.{Item}
use Rattle.cbor.proofs.Tags.{rest_fits, before_behind, sized, in_tag}

-- an item was taken of the beginning of a part: what it holds of a kind, and how many bytes it has
pub record ItemTaken {C : Type 0} (kind : Shape → Option C) (p : Piece) (held : C) (size : ℕ) : Type 0 where
  pub first : Front
  pub found : item_of p ≡ Some first
  pub holds : kind first.item ≡ Some held
  pub long : size ≡ before p first.rest

pub item_taken : {A C : Type 0} (view : A → C) (kind : Shape → Option C) (chooses : Item → Option A → Type 0) (p : Piece) (x : Read A) (r : Option (Read A)) → r ≡ Some x → ChosenFrom chooses p r
    → ((i : Item) (o : Option A) → chooses i o → option_map view o ≡ kind (shape i)) → ItemTaken kind p (view x.value) x.size
item_taken view kind chooses p x r is (None, e, c) tells = absurd (grind arith)
item_taken view kind chooses p x r is (Some t, e, (None, h, c)) tells = absurd (grind arith)
item_taken view kind chooses p x r is (Some t, e, (Some a, h, c)) tells =
    let k = tells t.item (Some a) h in
    record { first = taken t; found = grind arith; holds = grind arith; long = grind arith }

map_same : {A : Type 0} (o : Option A) → option_map (λ x. x) o ≡ o
map_same None = refl
map_same (Some x) = refl

-- the same of what is held by itself
pub held_taken : {A : Type 0} (kind : Shape → Option A) (chooses : Item → Option A → Type 0) (p : Piece) (x : Read A) (r : Option (Read A)) → r ≡ Some x → ChosenFrom chooses p r
    → ((i : Item) (o : Option A) → chooses i o → o ≡ kind (shape i)) → ItemTaken kind p x.value x.size
held_taken kind chooses p x r is c tells = item_taken (λ a. a) kind chooses p x r is c (λ i o e. map_same o ∙ tells i o e)

-- an item behind a tag that passes a test is found with it

in_turn : {C B : Type 0} (r : Outcome (Read ℕ)) (t : Read ℕ) (test : ℕ → Bool) (item : ℕ → Option Front) (f : Front) (kind : Shape → Option C) (c : C) (e : Refusal) (go : ℕ → C → ℕ → Outcome (Read B)) (size : Front → ℕ)
    → r ≡ Ok t → test t.value ≡ true → item t.size ≡ Some f → kind f.item ≡ Some c
    → onward r (λ y. need (test y.value) e (or_refuse (item y.size) e (λ g. or_refuse (kind g.item) e (λ d. go y.value d (size g))))) ≡ go t.value c (size f)
in_turn r t test item f kind c e go size found same first holds = rw (found, same, first, holds)

pub in_tag_taken : {C B : Type 0} (test : ℕ → Bool) (e : Piece → Refusal) (kind : Shape → Option C) (go : ℕ → Piece → C → ℕ → Outcome (Read B)) (p : Piece) (t : Read ℕ) (c : C) (size : ℕ)
    → Ok t ≡ tag_at p → test t.value ≡ true → t.size ≤ length p.bytes → ItemTaken kind (after t.size p) c size → in_tag test e kind go p ≡ go t.value p c (t.size + size)
in_tag_taken test e kind go p t c size found same fits s =
    let whole : before p s.first.rest ≡ t.size + size
    = sym (before_behind p s.first.rest t.size fits (rest_fits (after t.size p) s.first s.found)) ∙ ap (λ (n : ℕ). t.size + n) (sym s.long) in
    in_turn (tag_at p) t test (λ n. item_of (after n p)) s.first kind c (e p) (λ y d n. go y p d n) (λ f. before p f.rest) (sym found) same s.found s.holds ∙ ap (λ (n : ℕ). go t.value p c n) whole

-- a tag and the string behind it are one item

kept_sized : {B : Type 0} (o : Option B) (n m : ℕ) (e : Refusal) (y z : Read B) → Ok y ≡ ok_or (of_size n o) e → z.value ≡ y.value → z.size ≡ m + y.size → or_refuse o e (λ b. Ok (sized b (m + n))) ≡ Ok z
kept_sized None n m e y z is v s = absurd (grind arith)
kept_sized (Some x) n m e y z is v s = grind arith

pub tagged_whole : (tag N least : ℕ) (p : Piece) (t : Read ℕ) (x : Read Part) (y z : Read (Bytes N)) → Ok t ≡ tag_at p → t.value ≡ tag → t.size ≤ length p.bytes
    → ItemTaken is_bytes (after t.size p) (piece x.value) x.size → Ok y ≡ ok_or (of_size x.size (kept_from N least (piece x.value).bytes)) (OutOfLimits p.at) → z.value ≡ y.value → z.size ≡ t.size + y.size
    → Ok z ≡ tagged_bytes tag N least p
tagged_whole tag N least p t x y z found same fits s kept value size =
    sym (
    in_tag_taken (λ n. eqb n tag) (λ q. Malformed q.at) is_bytes (λ _ q c n. or_refuse (kept_from N least c.bytes) (OutOfLimits q.at) (λ b. Ok (sized b n))) p t (piece x.value) x.size found (eq-eqb t.value tag same) fits s
    ∙ kept_sized (kept_from N least (piece x.value).bytes) x.size t.size (OutOfLimits p.at) y z kept value size
    )
