use Rattle.std.proofs.Common.{◌≡◌, ℕ, ◌≤◌, Bool, true, eqb, ltb, leb, length, is_some, IfSome, Some, None, Ok, sym, refl, ◌∙◌, subst, inl, inr, arith, length-set}
use Rattle.std.proofs.lemmas.Bool.{leb-true, eqb-true, and_parts, cases_Bool}
use Rattle.refusals.specs.Reading.{or_refuse, above}
use Rattle.refusals.specs.declared.Refusal.TheVariants.{Malformed, Unknown, OutOfLimits, Missing}
use Rattle.refusals.proofs.Outcomes.{found_some}
use Rattle.claims.specs.Digests.{algorithm_of, no_digests, with_digest}
use Rattle.claims.specs.Environments.{no_environment}
use Rattle.claims.specs.Limits.{Holds, EnvironmentFits, WithinEnvironment, WithinDigests, ValuesFit}
use Rattle.claims.specs.Values.{no_flags, with_version, with_svn, with_digests, with_flags, with_raw}
use Rattle.claims.specs.declared.kinds.Algorithm.{Algorithm}
use Rattle.claims.specs.declared.kinds.Digests.{Digests}
use Rattle.claims.specs.declared.kinds.Environment.{Environment}
use Rattle.claims.specs.declared.kinds.Flags.{Flags}
use Rattle.claims.specs.declared.kinds.Values.{Values}
use Rattle.claims.proofs.Fits.{environment_within, within_fits, no_environment_lem, class_fits, vendor_fits, model_fits, layer_fits, index_fits, instance_fits, no_digests_lem, digest_fits, no_values_lem, version_fits, svn_fits, digests_fit, flags_fit, raw_fits}
use Rattle.conditions.specs.Limits.{WantedFits, WithinWanted}
use Rattle.conditions.specs.Wanted.{no_wanted, some_wanted}
use Rattle.conditions.specs.declared.kinds.Wanted.{Wanted}
use Rattle.parts.specs.Parts.{Piece, after}
use Rattle.parts.proofs.Sound.{Sound, sound_need, sound_or_refuse}
use Rattle.cbor.specs.Items.{Shape, unsigned, bytes, text, array, map, tag, truth, item_of, is_unsigned, is_bytes, is_tag}
use Rattle.cbor.specs.Scalars.{stores, number_to}
use Rattle.cbor.proofs.Limits.{Of, Yields, Any, sound_item, sound_by, sound_stores, sound_then, sound_number, sound_truth, sound_number_to, sound_array_of, sound_text, sound_tagged_bytes, sound_field, sound_where, sound_unknown, sound_array, sound_map, sound_map_brings}
use Rattle.measurements.specs.Digests.{fresh, algorithm_at, digest_bytes, digest_at, digest_array}
use Rattle.measurements.specs.Environments.{in_class, in_environment, class_field, class_map, environment_field, environment_map}
use Rattle.measurements.specs.Flags.{flag_field, flag_map}
use Rattle.measurements.specs.Listed.{none_listed, authority_at, authority_array}
use Rattle.measurements.specs.Measurements.{measurement_field, measurement_map}
use Rattle.measurements.specs.Svns.{most_svn, svn_tag, svn_under, tagged_svn, svn_by, svn_at}
use Rattle.measurements.specs.Values.{version_field, version_map, put, put_svn, values_field, values_map}
use Rattle.measurements.specs.declared.kinds.Allowed.{Allowed}
use Rattle.measurements.specs.declared.kinds.InClass.{InClass}
use Rattle.measurements.specs.declared.kinds.InDigests.{InDigests}
use Rattle.measurements.specs.declared.kinds.InEnvironment.{InEnvironment}
use Rattle.measurements.specs.declared.kinds.InFlags.{InFlags}
use Rattle.measurements.specs.declared.kinds.InMeasurement.{InMeasurement}
use Rattle.measurements.specs.declared.kinds.InValues.{InValues}
use Rattle.measurements.specs.declared.kinds.InVersion.{InVersion}
use Rattle.measurements.specs.declared.kinds.Svn.{Svn}
use Rattle.measurements.specs.declared.kinds.Svn.TheVariants.{Exact, Minimum}

-- what is read of a record is within its limits, and refused as a reader refuses

-- environments: each field brings itself

class_limits : (s : InClass) (key at : ℕ) → EnvironmentFits s.environment → Yields (λ (t : InClass). WithinEnvironment t.environment) (class_field s key at)
class_limits s key at w =
    sound_field (eqb key 0) (sound_stores (sound_tagged_bytes 560 32 1) _ (λ x k. environment_within (refl) (class_fits s.environment w x k)))
    (sound_field (eqb key 1) (sound_stores (sound_text 32 1) _ (λ x k. environment_within (grind arith) (vendor_fits s.environment w x k)))
    (sound_field (eqb key 2) (sound_stores (sound_text 32 1) _ (λ x k. environment_within (grind arith) (model_fits s.environment w x k)))
    (sound_field (eqb key 3) (sound_stores (sound_number_to 65535) _ (λ x k. environment_within (grind arith) (layer_fits s.environment w x k)))
    (sound_field (eqb key 4) (sound_stores (sound_number_to 65535) _ (λ x k. environment_within (grind arith) (index_fits s.environment w x k)))
    (sound_unknown at)))))

class_map_limits : (e : Environment) → EnvironmentFits e → Yields WithinEnvironment (class_map e)
class_map_limits e w =
    sound_stores
    (sound_map_brings (λ (s : InClass). EnvironmentFits s.environment) (λ (s : InClass). WithinEnvironment s.environment) class_field (λ s k. within_fits k) class_limits (in_class e) w)
    (λ s. s.environment) (λ s k. k)

field_limits : (s : InEnvironment) (key at : ℕ) → EnvironmentFits s.environment → Yields (λ (t : InEnvironment). WithinEnvironment t.environment) (environment_field s key at)
field_limits s key at w =
    sound_field (eqb key 0) (sound_stores (class_map_limits s.environment w) _ (λ x k. k))
    (sound_field (eqb key 1) (sound_stores (sound_tagged_bytes 550 33 7) _ (λ x k. environment_within (grind arith) (instance_fits s.environment w x k)))
    (sound_unknown at))

pub environment_limits : Yields WithinEnvironment environment_map
environment_limits =
    sound_stores
    (sound_map_brings (λ (s : InEnvironment). EnvironmentFits s.environment) (λ (s : InEnvironment). WithinEnvironment s.environment) environment_field (λ s k. within_fits k) field_limits (in_environment no_environment) no_environment_lem)
    (λ s. s.environment) (λ s k. k)

-- digests

bytes_limits : (s : Digests) (a : Algorithm) → WithinDigests s → Yields WithinDigests (digest_bytes s a)
bytes_limits s a w =
    sound_by (sound_item is_bytes) (λ p b. or_refuse (with_digest s a b.value.bytes) (OutOfLimits p.at) (λ t. Ok (record { value = t; size = b.size }))) (λ p b _.
    sound_or_refuse (Of WithinDigests) (with_digest s a b.value.bytes) (OutOfLimits p.at) _ (omega arith, omega arith) (λ t e. digest_fits s a b.value.bytes t w e))

algorithm_limits : (s : Digests) → Yields Any (algorithm_at s)
algorithm_limits s =
    sound_by sound_number (λ p n. or_refuse (fresh s (algorithm_of n.value)) (Unknown p.at) (λ a. Ok (record { value = a; size = n.size }))) (λ p n _.
    sound_or_refuse (Of Any) (fresh s (algorithm_of n.value)) (Unknown p.at) _ (omega arith, omega arith) (λ a e. tt))

digests_limits : Yields WithinDigests digest_array
digests_limits =
    sound_stores
    (sound_array (λ (s : InDigests). WithinDigests s.digests) digest_at
    (λ s w. sound_stores (sound_then (sound_array_of 2) (λ _ _. sound_then (algorithm_limits s.digests) (λ a _. bytes_limits s.digests a w))) (λ t. record { digests = t }) (λ t k. k))
    (record { digests = no_digests }) no_digests_lem)
    (λ s. s.digests) (λ s k. k)

-- flags

abbrev TenFlags : Flags → Type 0
TenFlags f = length f.states ≡ 10

flags_limits : Yields TenFlags flag_map
flags_limits =
    sound_stores
    (sound_map (λ (s : InFlags). TenFlags s.flags) flag_field
    (λ s key at w. sound_where (ltb key 10) (Unknown at) (omega arith, omega arith) (λ _. sound_stores sound_truth _ (λ b _. length-set s.flags.states key (Some b) ∙ w)))
    (record { flags = no_flags }) refl)
    (λ s. s.flags) (λ s k. k)

-- listed authorities

authorities_limits : Yields Any authority_array
authorities_limits = sound_stores (sound_array Any authority_at (λ s _. one s) none_listed tt) (λ s. s.listed) (λ s k. tt)
  where
    one : (s : _) → Yields Any (authority_at s)
    one s =
        sound_by sound_number _ (λ p n _.
        sound_need (Of Any) (above s.last n.value) (Unknown p.at) _ (omega arith, omega arith) (λ _.
        sound_need (Of Any) (ltb n.value 64) (OutOfLimits p.at) _ (omega arith, omega arith) (λ _. tt)))

-- svns: a minimum is read only where one may stand

abbrev SvnFits : Bool → Svn → Type 0
SvnFits minimum (Exact n) = n ≤ most_svn
SvnFits minimum (Minimum n) = (n ≤ most_svn) × (minimum ≡ true)

under_limits : (minimum : Bool) (t n : ℕ) → svn_tag minimum t ≡ true → n ≤ most_svn → SvnFits minimum (svn_under t n)
under_limits minimum t n passes k =
    elim (cases_Bool (eqb t 553)) [
      | inl e ↦
          let P : ℕ → Type 0 = λ u. svn_tag minimum u ≡ true in
          let may : svn_tag minimum 553 ≡ true = subst P (eqb-true t 553 e) passes in
          rw e (k, (and_parts minimum true may).0)
      | inr e ↦ rw e k
    ]

tagged_limits : (minimum : Bool) → Yields (SvnFits minimum) (tagged_svn minimum)
tagged_limits minimum =
    sound_by (sound_item is_tag) _ (λ p t _.
    sound_need (Of (SvnFits minimum)) (svn_tag minimum t.value) (Malformed p.at) _ (omega arith, omega arith) (λ passes.
    sound_or_refuse (Of (SvnFits minimum)) (item_of (after t.size p)) (Malformed p.at) _ (omega arith, omega arith) (λ f _.
    sound_or_refuse (Of (SvnFits minimum)) (is_unsigned f.item) (Malformed p.at) _ (omega arith, omega arith) (λ n _.
    sound_need (Of (SvnFits minimum)) (leb n most_svn) (OutOfLimits p.at) _ (omega arith, omega arith) (λ below. under_limits minimum t.value n passes (leb-true n most_svn below))))))

svn_limits : (minimum : Bool) → Yields (SvnFits minimum) (svn_at minimum)
svn_limits minimum = record { sound = λ p. sound_or_refuse (Of (SvnFits minimum)) (item_of p) (Malformed p.at) _ (omega arith, omega arith) (λ f _. by f.item p) }
  where
    exactly : Yields (SvnFits minimum) (λ p. stores (number_to most_svn p) Exact)
    exactly = sound_stores (sound_number_to most_svn) Exact (λ x k. k)

    by : (s : Shape) (p : Piece) → Sound (Of (SvnFits minimum)) (svn_by minimum s p)
    by (unsigned n) p = exactly.sound p
    by (tag t) p = (tagged_limits minimum).sound p
    by (bytes x) p = (omega arith, omega arith)
    by (text x) p = (omega arith, omega arith)
    by (array n) p = (omega arith, omega arith)
    by (map n) p = (omega arith, omega arith)
    by (truth b) p = (omega arith, omega arith)

-- versions and values

version_limits : Yields (Holds {N = 32} 1) version_map
version_limits =
    sound_by
    (sound_map (λ (s : InVersion). IfSome s.text (Holds 1)) version_field (λ s key at w. sound_field (eqb key 0) (sound_stores (sound_text 32 1) _ (λ x k. k)) (sound_unknown at)) (record { text = None }) tt)
    _ (λ p r w. sound_or_refuse (Of (Holds 1)) r.value.text (Missing p.at) _ (omega arith, omega arith) (λ x e. found_some r.value.text (Holds 1) x w e))

-- what is wanted fits, and there is a minimum only where one may stand
pub record Wants (minimum : Bool) (w : Wanted) : Type 0 where
  pub fits : WantedFits w
  pub may : is_some w.minimum ≡ true → minimum ≡ true

pub wants_nothing : (minimum : Bool) → Wants minimum no_wanted
wants_nothing minimum = record { fits = record { key = tt; values = no_values_lem; minimum = tt }; may = λ e. absurd (grind arith) }

abbrev InWants : InValues → Type 0
InWants s = Wants s.minimum s.wanted

put_limits : (s : InValues) (f : Values → Values) → InWants s → (ValuesFit s.wanted.values → ValuesFit (f s.wanted.values)) → InWants (put s f)
put_limits s f w to = record { fits = record { key = w.fits.key; values = to w.fits.values; minimum = w.fits.minimum }; may = w.may }

put_svn_limits : (s : InValues) (x : Svn) → InWants s → SvnFits s.minimum x → InWants (put_svn s x)
put_svn_limits s (Exact n) w k = put_limits s (λ v. with_svn v n) w (λ v. svn_fits s.wanted.values v n k)
put_svn_limits s (Minimum n) w k = record { fits = record { key = w.fits.key; values = w.fits.values; minimum = k.0 }; may = λ e. k.1 }

-- the values of a map stand where the map's minimum may
abbrev Stays : Bool → InValues → Type 0
Stays minimum s = InWants s × (s.minimum ≡ minimum)

value_limits : (minimum : Bool) (s : InValues) (key at : ℕ) → Stays minimum s → Yields (Stays minimum) (values_field s key at)
value_limits minimum s key at (w, same) =
    let v = s.wanted.values in
    sound_field (eqb key 0) (sound_stores version_limits _ (λ x k. (put_limits s (λ u. with_version u x) w (λ h. version_fits v h x k), same)))
    (sound_field (eqb key 1) (sound_stores (svn_limits s.minimum) _ (λ x k. (put_svn_limits s x w k, stays s x same)))
    (sound_field (eqb key 2) (sound_stores digests_limits _ (λ x k. (put_limits s (λ u. with_digests u x) w (λ h. digests_fit v h x k), same)))
    (sound_field (eqb key 3) (sound_stores flags_limits _ (λ x k. (put_limits s (λ u. with_flags u x) w (λ h. flags_fit v h x k), same)))
    (sound_field (eqb key 4) (sound_stores (sound_tagged_bytes 560 64 1) _ (λ x k. (put_limits s (λ u. with_raw u x) w (λ h. raw_fits v h x k), same)))
    (sound_unknown at)))))
  where
    stays : (s : InValues) (x : Svn) → s.minimum ≡ minimum → (put_svn s x).minimum ≡ minimum
    stays s (Exact n) e = e
    stays s (Minimum n) e = e

values_limits : (minimum : Bool) (w : Wanted) → Wants minimum w → Yields (Wants minimum) (values_map minimum w)
values_limits minimum w k =
    sound_stores (sound_map (Stays minimum) values_field (value_limits minimum) (record { minimum = minimum; wanted = w }) (k, refl))
    (λ s. s.wanted) (λ s h. subst (λ (b : Bool). Wants b s.wanted) h.1 h.0)

-- measurement maps

abbrev Keeps : Allowed → InMeasurement → Type 0
Keeps allowed s = Wants allowed.minimum s.wanted × (s.allowed ≡ allowed)

measurement_field_lem : (allowed : Allowed) (s : InMeasurement) (key at : ℕ) → Keeps allowed s → Yields (Keeps allowed) (measurement_field s key at)
measurement_field_lem allowed s key at (w, same) =
    sound_field (eqb key 0) (sound_stores (sound_number_to 65535) _ (λ n k. (record { fits = record { key = k; values = w.fits.values; minimum = w.fits.minimum }; may = w.may }, same)))
    (sound_field (eqb key 1) (sound_stores (values_limits s.allowed.minimum s.wanted (subst (λ (a : Allowed). Wants a.minimum s.wanted) (sym same) w)) _
    (λ x k. (subst (λ (a : Allowed). Wants a.minimum x) same k, same)))
    (sound_field (eqb key 2) (sound_where s.allowed.authorities (Unknown at) (omega arith, omega arith) (λ _. sound_stores authorities_limits _ (λ x _. (record { fits = record { key = w.fits.key; values = w.fits.values; minimum = w.fits.minimum }; may = w.may }, same))))
    (sound_unknown at)))

-- what a measurement map wants: something, within its limits, and a minimum only where one may stand
pub record Measures (allowed : Allowed) (w : Wanted) : Type 0 where
  pub within : WithinWanted w
  pub may : is_some w.minimum ≡ true → allowed.minimum ≡ true

pub measurement_limits : (allowed : Allowed) → Yields (Measures allowed) (measurement_map allowed)
measurement_limits allowed =
    sound_by (sound_map (Keeps allowed) measurement_field (measurement_field_lem allowed) (record { allowed = allowed; wanted = no_wanted }) (wants_nothing allowed.minimum, refl)) _ (λ p r k.
    sound_need (Of (Measures allowed)) (some_wanted r.value.wanted) (Missing p.at) _ (omega arith, omega arith) (λ some. record { within = record { some = some; fits = k.0.fits }; may = k.0.may }))
