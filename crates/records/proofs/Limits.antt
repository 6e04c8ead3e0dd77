use Rattle.std.proofs.Common.{◌≡◌, ℕ, ◌<◌, ◌≤◌, Bool, true, false, not, ◌||◌, ltb, List, [], ◌∷◌, map, length, set, is_some, Some, None, Ok, Option, sym, refl, ap, ◌∙◌, subst, inl, inr, arith, length-set}
use Rattle.std.specs.List.{AllByRecursion}
use Rattle.std.proofs.ByRecursion.{All-more, All-map, All-weaker}
use Rattle.std.proofs.lemmas.List.{take-set, get_or-set_same, length-take-le}
use Rattle.std.proofs.lemmas.Bool.{both_ways, cond-true, cond-false, ltb-true, cases_Bool}
use Rattle.refusals.specs.declared.Refusal.TheVariants.{Malformed, OutOfLimits}
use Rattle.refusals.proofs.Outcomes.{some_same, found_some}
use Rattle.claims.specs.Claims.{no_claim}
use Rattle.claims.proofs.Fits.{values_within}
use Rattle.claims.specs.Limits.{some_value, WithinEnvironment, Within}
use Rattle.claims.specs.declared.kinds.Environment.{Environment}
use Rattle.conditions.specs.Limits.{WithinCondition, WithinWanted}
use Rattle.conditions.specs.Wanted.{no_condition}
use Rattle.conditions.specs.declared.kinds.Condition.{Condition}
use Rattle.conditions.specs.declared.kinds.Wanted.{Wanted}
use Rattle.parts.specs.Parts.{whole_of}
use Rattle.parts.proofs.Sound.{Sound, sound_onward, sound_need}
use Rattle.cbor.specs.Items.{is_map}
use Rattle.cbor.proofs.Limits.{Of, Yields, sound_item, sound_by, sound_stores, sound_then, sound_array_of, sound_array_brings}
use Rattle.measurements.specs.Measurements.{in_condition, in_addition}
use Rattle.measurements.specs.declared.kinds.Allowed.{Allowed}
use Rattle.measurements.proofs.Limits.{environment_limits, measurement_limits}
use Rattle.records.specs.Additions.{claim_with, claim_of, joined_all, additions_of}
use Rattle.records.specs.Few.{few_of, room, joined, members}
use Rattle.records.specs.Limits.{Each, WithinConditions}
use Rattle.records.specs.Records.{record_head, on_environment, condition_at, map_at_most, maps_under, record_at, records_of, judged}
use Rattle.records.specs.declared.kinds.Few.{Few}
use Rattle.records.specs.declared.kinds.InRecord.{InRecord}
use Rattle.records.specs.declared.kinds.InRecords.{InRecords}

-- what is read of records is within its limits

-- rows of at most four

pub none_each : {T : Type 0} (P : T → Type 0) (filling : T) → Each P (few_of filling)
none_each P filling = record { few = omega arith; long = refl; all = tt }

pub joined_each : {T : Type 0} (P : T → Type 0) (s : Few T) (x : T) → Each P s → P x → Each P (joined s x)
joined_each {T = T} P s x w h = elim (cases_Bool (room s)) [
  | inl free ↦
      let below : s.count < 4 = ltb-true _ _ free in
      let Q : Few T → Type 0 = λ t. Each P t in
      subst Q (sym (cond-true (room s) _ s free)) (record {
        few = omega arith;
        long = length-set s.places s.count x ∙ w.long;
        all = All-more P (set s.places s.count x) s.count x (rw (length-set s.places s.count x) (omega (arith, w.long)))
            (subst (λ (l : List T). AllByRecursion P l) (sym (take-set s.places s.count x)) w.all)
            (subst P (sym (get_or-set_same s.places s.count x x (omega (arith, w.long)))) h);
      })
  | inr full ↦ subst (λ (t : Few T). Each P t) (sym (cond-false (room s) _ s full)) w
]

pub joined_all_lem : {T : Type 0} (P : T → Type 0) (s : Few T) (xs : List T) → Each P s → AllByRecursion P xs → Each P (joined_all s xs)
joined_all_lem P s [] w h = w
joined_all_lem P s (x ∷ xs) w h = joined_all_lem P (joined s x) xs (joined_each P s x w h.0) h.1

-- a member more is a member at least
joined_some : {T : Type 0} (s : Few T) (x : T) → room s ≡ true → 1 ≤ (joined s x).count
joined_some s x free = rw free (omega arith)

-- a condition within its limits that carries no more than it may
pub record Rightly (allowed : Allowed) (c : Condition) : Type 0 where
  pub within : WithinCondition c
  pub wants : is_some c.wanted ≡ true
  pub may : (w : Wanted) → c.wanted ≡ Some w → is_some w.minimum ≡ true → allowed.minimum ≡ true

pub condition_limits : (allowed : Allowed) (e : Environment) → WithinEnvironment e → Yields (Rightly allowed) (condition_at allowed e)
condition_limits allowed e k =
    sound_stores (measurement_limits allowed) (on_environment e) (λ w m. record {
      within = record { environment = k; wanted = m.within };
      wants = refl;
      may = λ v same least. m.may (subst (λ (u : Wanted). is_some u.minimum ≡ true) (sym (some_same w v same)) least);
    })

pub head_limits : Yields WithinEnvironment record_head
head_limits = sound_then (sound_array_of 2) (λ _ _. environment_limits)

-- rows of conditions

abbrev In : Allowed → InRecord → Type 0
In allowed s = (s.allowed ≡ allowed) × WithinEnvironment s.environment × Each (Rightly allowed) s.found

-- some of them
abbrev SomeOf : Allowed → Few Condition → Type 0
SomeOf allowed found = (1 ≤ found.count) × Each (Rightly allowed) found

abbrev Brought : Allowed → InRecord → Type 0
Brought allowed s = In allowed s × (1 ≤ s.found.count)

map_limits : (allowed : Allowed) (s : InRecord) → In allowed s → Yields (Brought allowed) (map_at_most s)
map_limits allowed s (same, environment, each) =
    sound_by (sound_item is_map) _ (λ p _ _.
    sound_need (Of (Brought allowed)) (room s.found) (OutOfLimits p.at) _ (omega arith, omega arith) (λ free.
    (sound_stores (condition_limits s.allowed s.environment environment) _
    (λ c k. ((same, environment, joined_each (Rightly allowed) s.found c each (subst (λ (a : Allowed). Rightly a c) same k)), joined_some s.found c free))).sound p))

pub maps_limits : (allowed : Allowed) (found : Few Condition) (e : Environment) → WithinEnvironment e → Each (Rightly allowed) found → Yields (SomeOf allowed) (maps_under allowed found e)
maps_limits allowed found e k each =
    sound_stores (sound_array_brings (In allowed) (Brought allowed) map_at_most (λ s h. h.0) (map_limits allowed) (record { allowed = allowed; environment = e; found = found }) (refl, k, each))
    (λ s. s.found) (λ s h. (h.1, h.0.2))

abbrev Records : Allowed → InRecords → Type 0
Records allowed s = (s.allowed ≡ allowed) × Each (Rightly allowed) s.found

abbrev BroughtRecords : Allowed → InRecords → Type 0
BroughtRecords allowed s = Records allowed s × (1 ≤ s.found.count)

record_limits : (allowed : Allowed) (s : InRecords) → Records allowed s → Yields (BroughtRecords allowed) (record_at s)
record_limits allowed s (same, each) =
    sound_then head_limits (λ e k.
    sound_stores (maps_limits s.allowed s.found e k (subst (λ (a : Allowed). Each (Rightly a) s.found) (sym same) each)) _
    (λ found h. ((same, subst (λ (a : Allowed). Each (Rightly a) found) same h.1), h.0)))

pub records_limits : (allowed : Allowed) → Yields (SomeOf allowed) (records_of allowed)
records_limits allowed =
    sound_stores (sound_array_brings (Records allowed) (BroughtRecords allowed) record_at (λ s h. h.0) (record_limits allowed) (record { allowed = allowed; found = few_of no_condition }) (refl, none_each (Rightly allowed) no_condition))
    (λ s. s.found) (λ s h. (h.1, h.0.1))

-- conditions as they are told

pub each_weaker : {T : Type 0} (P Q : T → Type 0) → ((x : T) → P x → Q x) → (s : Few T) → Each P s → Each Q s
each_weaker P Q to s w = record { few = w.few; long = w.long; all = All-weaker P Q to (members s) w.all }

pub conditions_within : (allowed : Allowed) (s : Few Condition) → SomeOf allowed s → WithinConditions s
conditions_within allowed s h = record { some = h.0; each = each_weaker (Rightly allowed) WithinCondition (λ c k. k.within) s h.1 }

-- additions as claims

some_value_lem : (a b : Bool) → (a ≡ true → false ≡ true) → (a || b) ≡ true → b ≡ true
some_value_lem true b never e = absurd (both_ways false refl (never refl))
some_value_lem false b never e = e

claim_within : (c : Condition) → Rightly in_addition c → Within (claim_of c)
claim_within c k = by c.wanted refl
  where
    by : (o : Option Wanted) → c.wanted ≡ o → Within (claim_with c.environment c.wanted)
    by None e = absurd (both_ways (is_some c.wanted) (ap is_some e) k.wants)
    by (Some w) e =
        let v = found_some c.wanted WithinWanted w k.within.wanted e in
        subst (λ (o : Option Wanted). Within (claim_with c.environment o)) (sym e) (record {
          environment = k.within.environment;
          key = v.fits.key;
          values = values_within (some_value_lem (is_some w.minimum) (some_value w.values) (k.may w e) v.some) v.fits.values;
        })

pub additions_within : (s : Few Condition) → Each (Rightly in_addition) s → Each Within (additions_of s)
additions_within s w = joined_all_lem Within (few_of no_claim) (map claim_of (members s)) (none_each Within no_claim) (All-map Within claim_of (members s) (All-weaker (Rightly in_addition) (λ c. Within (claim_of c)) claim_within (members s) w.all))

-- the conditions of a booking rule

pub rule_limits : (m : List ℕ) → Sound WithinConditions (judged m)
rule_limits m =
    sound_onward (Of (SomeOf in_condition)) WithinConditions (records_of in_condition (whole_of m)) _ ((records_limits in_condition).sound (whole_of m)) (λ r h.
    sound_need WithinConditions (not (ltb r.size (length m))) (Malformed r.size) (Ok r.value) (omega arith, omega arith) (λ _. conditions_within in_condition r.value h))

-- as many additions as conditions that they came from: one at least, if one was there

joined_grows : {T : Type 0} (s : Few T) (x : T) → s.count ≤ (joined s x).count
joined_grows s x = elim (cases_Bool (room s)) [
  | inl free ↦ rw free (omega arith)
  | inr full ↦ rw full (omega arith)
]

joined_all_grows : {T : Type 0} (s : Few T) (xs : List T) → s.count ≤ (joined_all s xs).count
joined_all_grows s [] = omega arith
joined_all_grows s (x ∷ xs) = let a = joined_grows s x in let b = joined_all_grows (joined s x) xs in omega arith

members_some : {T : Type 0} (P : T → Type 0) (s : Few T) → 1 ≤ s.count → Each P s → 0 < length (members s)
members_some P s some each = rw (length-take-le s.count s.places (omega (arith, each.few, each.long))) (omega arith)

pub additions_some : (s : Few Condition) → 1 ≤ s.count → Each (Rightly in_addition) s → 1 ≤ (additions_of s).count
additions_some s some each = by (members s) (members_some (Rightly in_addition) s some each)
  where
    by : (cs : List Condition) → 0 < length cs → 1 ≤ (joined_all (few_of no_claim) (map claim_of cs)).count
    by [] h = absurd (omega arith)
    by (c ∷ cs) h = let a = joined_all_grows (joined (few_of no_claim) (claim_of c)) (map claim_of cs) in omega arith
