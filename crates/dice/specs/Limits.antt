use Rattle.std.specs.Prelude.{◌≡◌, ℕ, ◌%◌, ◌≤◌, true, not, ◌&&◌, List, [], ◌∷◌, length, IfSome, Some, None, Ok, Err, Option, ◌==◌, nat_le, nat_lt, slice_index, refl}
use Rattle.std.proofs.Common.{arith}
use Rattle.std.proofs.lemmas.Bool.{and_parts, leb-true}
use Rattle.refusals.specs.Reading.{Outcome, keeps, above}
use Rattle.refusals.specs.declared.Refusal.TheVariants.{Malformed, Unknown, OutOfLimits, Missing}
use Rattle.claims.proofs.Fits.{environment_within, values_within, no_environment_lem, class_fits, vendor_fits, model_fits, layer_fits, index_fits, instance_fits, no_digests_lem, digest_fits, no_values_lem, version_fits, svn_fits, digests_fit, flags_fit, raw_fits}
use Rattle.claims.proofs.Kept.{kept_holds}
use Rattle.claims.specs.Bytes.{kept_from}
use Rattle.claims.specs.Digests.{no_digests, with_digest, has_digest}
use Rattle.claims.specs.Environments.{with_class, with_vendor, with_model, with_layer, with_index}
use Rattle.claims.specs.Values.{with_version, with_svn, with_digests, with_flags, with_raw}
use Rattle.claims.specs.Limits.{Holds, EnvironmentFits, WithinDigests, ValuesFit, Within, some_field, some_value, stands}
use Rattle.claims.specs.declared.kinds.Algorithm.{Algorithm}
use Rattle.claims.specs.declared.kinds.Bytes.{Bytes}
use Rattle.claims.specs.declared.kinds.Digests.{Digests}
use Rattle.claims.specs.declared.kinds.Environment.{Environment}
use Rattle.claims.specs.declared.kinds.Values.{Values}
use Rattle.claims.specs.declared.kinds.Flags.{Flags}
use Rattle.claims.specs.declared.kinds.Claim.{Claim}
use Rattle.der.specs.Contents.{bytes_in, integer_in, shortest}
use Rattle.parts.specs.Numbers.{big}
use Rattle.parts.specs.Parts.{Piece, whole_of}
use Rattle.der.specs.Items.{Shape, item_of}
use Rattle.parts.specs.Parts.{some, none}
use Rattle.der.specs.Kinds.{is_octets, is_identifier, is_sequence, is_boolean, is_field, Holder, item_at, truth, past_boolean, after_boolean}
use Rattle.parts.specs.Holders.{elements_in}
use Rattle.parts.specs.declared.kinds.Read.{Read}
use Rattle.refusals.proofs.Outcomes.{found_some}
use Rattle.parts.proofs.Sound.{Sound, sound_onward, sound_keeps, sound_need, sound_or_refuse, sound_cond, sound_elements}
use Rattle.evidence.specs.Readings.{KeepsLimits, RefusesAsReader}
use Rattle.dice.specs.Names.{algorithm_named, extension_of}
use Rattle.dice.specs.Flags.{flags_of, padded, flags_in}
use Rattle.dice.specs.Digests.{digest_value, digest_parts, digest_at, digests_in}
use Rattle.claims.specs.Claims.{no_claim}
use Rattle.dice.specs.Fields.{in_environment, in_values, formed, environment_field, value_field, of_values, field_says, field_at, no_fields, info_in}
use Rattle.dice.specs.Extensions.{ueid_in, held_by, again, extension_value, after_name, extension_parts, extension_at, no_extensions}
use Rattle.dice.specs.Messages.{on_instance, message_of, reading}
use Rattle.dice.specs.declared.kinds.Gathered.{Gathered}
use Rattle.dice.specs.declared.kinds.Fields.{Fields}
use Rattle.dice.specs.declared.kinds.Extension.{Extension}
use Rattle.dice.specs.declared.kinds.Extension.TheVariants.{TcbInfo, Ueid, Other}
use Rattle.dice.specs.declared.kinds.Extensions.{Extensions}

-- nothing is asked
abbrev Any : {A : Type 0} → A → Type 0
Any x = Unit {0}

-- items and contents

item_sound : (kind : Shape → Option Piece) (p : Piece) → Sound (λ (h : Holder). Any h) (item_at kind p)
item_sound kind p =
    sound_or_refuse _ (item_of p) (Malformed p.at) _ (omega arith, omega arith) (λ f e.
    sound_or_refuse _ (kind f.item) (Malformed p.at) _ (omega arith, omega arith) (λ c k. tt))

bytes_sound : (N least at : ℕ) (c : List ℕ) → Sound (Holds {N = N} least) (bytes_in N least at c)
bytes_sound N least at c = sound_or_refuse _ (kept_from N least c) (OutOfLimits at) _ (omega arith, omega arith) (λ b e. kept_holds N least c b e)

integer_sound : (most at : ℕ) (c : List ℕ) → Sound (λ (n : ℕ). n ≤ most) (integer_in most at c)
integer_sound most at c =
    sound_need _ (shortest c) (Malformed at) _ (omega arith, omega arith) (λ e.
    sound_need _ (nat_lt (slice_index c 0) 128 && nat_le (length c) 8) (OutOfLimits at) _ (omega arith, omega arith) (λ f.
    sound_need (λ (n : ℕ). n ≤ most) (nat_le (big c) most) (OutOfLimits at) (Ok (big c)) (omega arith, omega arith) (λ g. leb-true (big c) most g)))

abbrev TenFlags : Flags → Type 0
TenFlags f = length f.states ≡ 10

flags_sound : (at : ℕ) (c : List ℕ) → Sound TenFlags (flags_in at c)
flags_sound at c =
    sound_need TenFlags (nat_lt 0 (length c)) (Malformed at) _ (omega arith, omega arith) (λ e.
    sound_need TenFlags (nat_le (length c) 5 && nat_le (slice_index c 0) 7) (OutOfLimits at) _ (omega arith, omega arith) (λ f.
    sound_need TenFlags (padded c) (OutOfLimits at) (Ok (flags_of c)) (omega arith, omega arith) (λ g. refl)))

-- digests

value_sound : (s : Digests) (algorithm : Algorithm) (at : ℕ) (p : Piece) → WithinDigests s → Sound WithinDigests (digest_value s algorithm at p)
value_sound s algorithm at p w =
    sound_need WithinDigests (some p) (Missing at) _ (omega arith, omega arith) (λ e.
    sound_onward Any WithinDigests (item_at is_octets p) _ (item_sound is_octets p) (λ value _.
    sound_or_refuse WithinDigests (with_digest s algorithm value.content.bytes) (OutOfLimits p.at) _ (omega arith, omega arith) (λ t f.
    sound_need WithinDigests (none value.rest) (Malformed value.rest.at) (Ok t) (omega arith, omega arith) (λ _. digest_fits s algorithm value.content.bytes t w f))))

parts_sound : (s : Digests) (at : ℕ) (p : Piece) → WithinDigests s → Sound WithinDigests (digest_parts s at p)
parts_sound s at p w =
    sound_need WithinDigests (some p) (Missing at) _ (omega arith, omega arith) (λ e.
    sound_onward Any WithinDigests (item_at is_identifier p) _ (item_sound is_identifier p) (λ name _.
    sound_or_refuse WithinDigests (algorithm_named name.content.bytes) (Unknown p.at) _ (omega arith, omega arith) (λ algorithm f.
    sound_need WithinDigests (not (has_digest s algorithm)) (Unknown p.at) _ (omega arith, omega arith) (λ _. value_sound s algorithm at name.rest w))))

abbrev WithinGathered : Gathered → Type 0
WithinGathered s = WithinDigests s.digests

digest_sound : (s : Gathered) (p : Piece) → WithinGathered s → Sound (λ (x : Read Gathered). WithinGathered x.value) (digest_at s p)
digest_sound s p w =
    sound_onward Any (λ (x : Read Gathered). WithinGathered x.value) (item_at is_sequence p) _ (item_sound is_sequence p) (λ h _.
    sound_onward WithinDigests (λ (x : Read Gathered). WithinGathered x.value) (digest_parts s.digests p.at h.content) _ (parts_sound s.digests p.at h.content w) (λ t k. k))

digests_sound : (at : ℕ) (p : Piece) → Sound WithinDigests (digests_in at p)
digests_sound at p =
    sound_need WithinDigests (some p) (Missing at) _ (omega arith, omega arith) (λ e.
    sound_keeps WithinGathered WithinDigests (elements_in digest_at (record { digests = no_digests }) p) (λ s. s.digests)
    (sound_elements WithinGathered digest_at digest_sound (length p.bytes) (record { digests = no_digests }) p no_digests_lem) (λ s k. k))

-- fields: within their limits, as many as there are

record ClaimFits (c : Claim) : Type 0 where
  environment : EnvironmentFits c.environment
  key : IfSome c.key (λ n. n ≤ 65535)
  values : ValuesFit c.values

environment_sound : (e : Environment) (tag at : ℕ) (c : List ℕ) → EnvironmentFits e → Sound EnvironmentFits (environment_field e tag at c)
environment_sound e tag at c w =
    sound_cond EnvironmentFits (tag == 0x80) _ _
    (sound_keeps (Holds 1) EnvironmentFits (bytes_in 32 1 at c) (with_vendor e) (bytes_sound 32 1 at c) (vendor_fits e w))
    (sound_cond EnvironmentFits (tag == 0x81) _ _
    (sound_keeps (Holds 1) EnvironmentFits (bytes_in 32 1 at c) (with_model e) (bytes_sound 32 1 at c) (model_fits e w))
    (sound_cond EnvironmentFits (tag == 0x84) _ _
    (sound_keeps (λ (n : ℕ). n ≤ 65535) EnvironmentFits (integer_in 65535 at c) (with_layer e) (integer_sound 65535 at c) (layer_fits e w))
    (sound_cond EnvironmentFits (tag == 0x85) _ _
    (sound_keeps (λ (n : ℕ). n ≤ 65535) EnvironmentFits (integer_in 65535 at c) (with_index e) (integer_sound 65535 at c) (index_fits e w))
    (sound_cond EnvironmentFits (tag == 0x89) _ _
    (sound_keeps (Holds 1) EnvironmentFits (bytes_in 32 1 at c) (with_class e) (bytes_sound 32 1 at c) (class_fits e w))
    (omega arith, omega arith)))))

values_sound : (v : Values) (tag at : ℕ) (p : Piece) → ValuesFit v → Sound ValuesFit (value_field v tag at p)
values_sound v tag at p w =
    sound_cond ValuesFit (tag == 0x82) _ _
    (sound_keeps (Holds 1) ValuesFit (bytes_in 32 1 at p.bytes) (with_version v) (bytes_sound 32 1 at p.bytes) (version_fits v w))
    (sound_cond ValuesFit (tag == 0x83) _ _
    (sound_keeps (λ (n : ℕ). n ≤ 4294967295) ValuesFit (integer_in 4294967295 at p.bytes) (with_svn v) (integer_sound 4294967295 at p.bytes) (svn_fits v w))
    (sound_cond ValuesFit (tag == 0xA6) _ _
    (sound_keeps WithinDigests ValuesFit (digests_in at p) (with_digests v) (digests_sound at p) (digests_fit v w))
    (sound_cond ValuesFit (tag == 0x87) _ _
    (sound_keeps TenFlags ValuesFit (flags_in at p.bytes) (with_flags v) (flags_sound at p.bytes) (flags_fit v w))
    (sound_cond ValuesFit (tag == 0x88) _ _
    (sound_keeps (Holds 1) ValuesFit (bytes_in 64 1 at p.bytes) (with_raw v) (bytes_sound 64 1 at p.bytes) (raw_fits v w))
    (omega arith, omega arith)))))

says_sound : (c : Claim) (tag at : ℕ) (p : Piece) → ClaimFits c → Sound ClaimFits (field_says c tag at p)
says_sound c tag at p w =
    sound_cond ClaimFits (of_values tag) _ _
    (sound_keeps ValuesFit ClaimFits (value_field c.values tag at p) (in_values c) (values_sound c.values tag at p w.values) (λ v k. record { environment = w.environment; key = w.key; values = k }))
    (sound_keeps EnvironmentFits ClaimFits (environment_field c.environment tag at p.bytes) (in_environment c) (environment_sound c.environment tag at p.bytes w.environment) (λ e k. record { environment = k; key = w.key; values = w.values }))

abbrev FieldsFit : Fields → Type 0
FieldsFit s = ClaimFits s.claim

field_sound : (s : Fields) (p : Piece) → FieldsFit s → Sound (λ (x : Read Fields). FieldsFit x.value) (field_at s p)
field_sound s p w =
    sound_or_refuse (λ (x : Read Fields). FieldsFit x.value) (item_of p) (Malformed p.at) _ (omega arith, omega arith) (λ f _.
    sound_or_refuse (λ (x : Read Fields). FieldsFit x.value) (is_field f.item) (Unknown p.at) _ (omega arith, omega arith) (λ x _.
    sound_need (λ (x : Read Fields). FieldsFit x.value) (formed x.0 x.1.bytes) (Malformed p.at) _ (omega arith, omega arith) (λ _.
    sound_need (λ (x : Read Fields). FieldsFit x.value) (above s.last (x.0 % 32)) (Unknown p.at) _ (omega arith, omega arith) (λ _.
    sound_onward ClaimFits (λ (x : Read Fields). FieldsFit x.value) (field_says s.claim x.0 p.at x.1) _ (says_sound s.claim x.0 p.at x.1 w) (λ c k. k)))))

nothing_fits : ClaimFits no_claim
nothing_fits = record { environment = no_environment_lem; key = tt; values = no_values_lem }

info_sound : (at : ℕ) (p : Piece) → Sound ClaimFits (info_in at p)
info_sound at p =
    sound_need ClaimFits (some p) (Missing at) _ (omega arith, omega arith) (λ _.
    sound_onward Any ClaimFits (item_at is_sequence p) _ (item_sound is_sequence p) (λ h _.
    sound_need ClaimFits (some h.content) (Missing p.at) _ (omega arith, omega arith) (λ _.
    sound_onward FieldsFit ClaimFits (elements_in field_at no_fields h.content) _
    (sound_elements FieldsFit field_at field_sound (length h.content.bytes) no_fields h.content nothing_fits) (λ f k.
    sound_need ClaimFits (none h.rest) (Malformed h.rest.at) (Ok f.claim) (omega arith, omega arith) (λ _. k)))))

-- extensions

record ExtensionsFit (s : Extensions) : Type 0 where
  info : IfSome s.info ClaimFits
  instance : IfSome s.instance (Holds 7)

ueid_sound : (at : ℕ) (p : Piece) → Sound (Holds {N = 33} 7) (ueid_in at p)
ueid_sound at p =
    sound_need (Holds 7) (some p) (Missing at) _ (omega arith, omega arith) (λ _.
    sound_onward Any (Holds 7) (item_at is_sequence p) _ (item_sound is_sequence p) (λ h _.
    sound_need (Holds 7) (some h.content) (Missing p.at) _ (omega arith, omega arith) (λ _.
    sound_onward Any (Holds 7) (item_at is_octets h.content) _ (item_sound is_octets h.content) (λ value _.
    sound_onward (Holds 7) (Holds 7) (bytes_in 33 7 h.content.at value.content.bytes) _ (bytes_sound 33 7 h.content.at value.content.bytes) (λ b k.
    sound_need (Holds 7) (none value.rest) (Malformed value.rest.at) _ (omega arith, omega arith) (λ _.
    sound_need (Holds 7) (none h.rest) (Malformed h.rest.at) (Ok b) (omega arith, omega arith) (λ _. k)))))))

held_sound : (name : Extension) (s : Extensions) (at : ℕ) (p : Piece) → ExtensionsFit s → Sound ExtensionsFit (held_by name s at p)
held_sound TcbInfo s at p w = sound_keeps ClaimFits ExtensionsFit (info_in at p) _ (info_sound at p) (λ c k. record { info = k; instance = w.instance })
held_sound Ueid s at p w = sound_keeps (Holds 7) ExtensionsFit (ueid_in at p) _ (ueid_sound at p) (λ b k. record { info = w.info; instance = k })
held_sound Other s at p w = w

boolean_sound : (p : Piece) → Sound (λ (q : Piece). Any q) (after_boolean p)
boolean_sound p = sound_or_refuse _ (item_of p) (Malformed p.at) _ (omega arith, omega arith) (λ f _. past (is_boolean f.item) f.rest)
  where
    past : (o : Option Piece) (rest : Piece) → Sound (λ (q : Piece). Any q) (past_boolean p o rest)
    past None rest = tt
    past (Some c) rest = sound_need _ (truth c.bytes) (OutOfLimits p.at) (Ok rest) (omega arith, omega arith) (λ _. tt)

extension_value_lem : (name : Extension) (s : Extensions) (at : ℕ) (p : Piece) → ExtensionsFit s → Sound ExtensionsFit (extension_value name s at p)
extension_value_lem name s at p w =
    sound_need ExtensionsFit (some p) (Missing at) _ (omega arith, omega arith) (λ _.
    sound_onward Any ExtensionsFit (item_at is_octets p) _ (item_sound is_octets p) (λ value _.
    sound_onward ExtensionsFit ExtensionsFit (held_by name s p.at value.content) _ (held_sound name s p.at value.content w) (λ t k.
    sound_need ExtensionsFit (none value.rest) (Malformed value.rest.at) (Ok t) (omega arith, omega arith) (λ _. k))))

after_name_lem : (name : Extension) (s : Extensions) (at : ℕ) (p : Piece) → ExtensionsFit s → Sound ExtensionsFit (after_name name s at p)
after_name_lem name s at p w =
    sound_need ExtensionsFit (some p) (Missing at) _ (omega arith, omega arith) (λ _.
    sound_onward Any ExtensionsFit (after_boolean p) _ (boolean_sound p) (λ q _. extension_value_lem name s at q w))

extension_parts_lem : (s : Extensions) (at : ℕ) (p : Piece) → ExtensionsFit s → Sound ExtensionsFit (extension_parts s at p)
extension_parts_lem s at p w =
    sound_need ExtensionsFit (some p) (Missing at) _ (omega arith, omega arith) (λ _.
    sound_onward Any ExtensionsFit (item_at is_identifier p) _ (item_sound is_identifier p) (λ name _.
    sound_need ExtensionsFit (not (again (extension_of name.content.bytes) s)) (Unknown at) _ (omega arith, omega arith) (λ _.
    after_name_lem (extension_of name.content.bytes) s at name.rest w)))

extension_sound : (s : Extensions) (p : Piece) → ExtensionsFit s → Sound (λ (x : Read Extensions). ExtensionsFit x.value) (extension_at s p)
extension_sound s p w =
    sound_onward Any (λ (x : Read Extensions). ExtensionsFit x.value) (item_at is_sequence p) _ (item_sound is_sequence p) (λ h _.
    sound_onward ExtensionsFit (λ (x : Read Extensions). ExtensionsFit x.value) (extension_parts s p.at h.content) _ (extension_parts_lem s p.at h.content w) (λ t k. k))

-- the message

on_instance_lem : (c : Claim) (o : Option (Bytes 33)) → ClaimFits c → IfSome o (Holds 7) → ClaimFits (on_instance c o)
on_instance_lem c None w k = w
on_instance_lem c (Some b) w k = record { environment = instance_fits c.environment w.environment b k; key = w.key; values = w.values }

within : (c : Claim) → ClaimFits c → stands c ≡ true → Within c
within c w s =
    let p = and_parts (some_field c.environment) (some_value c.values) s in
    record { environment = environment_within p.0 w.environment; key = w.key; values = values_within p.1 w.values }

message_sound : (m : List ℕ) → Sound Within (message_of m)
message_sound m =
    sound_onward Any Within (item_at is_sequence (whole_of m)) _ (item_sound is_sequence (whole_of m)) (λ h _.
    sound_need Within (some h.content) (Missing 0) _ (omega arith, omega arith) (λ _.
    sound_onward ExtensionsFit Within (elements_in extension_at no_extensions h.content) _
    (sound_elements ExtensionsFit extension_at extension_sound (length h.content.bytes) no_extensions h.content (record { info = tt; instance = tt })) (λ x w.
    sound_or_refuse Within x.info (Missing 0) _ (omega arith, omega arith) (λ c e.
    sound_need Within (none h.rest) (Malformed h.rest.at) _ (omega arith, omega arith) (λ _.
    sound_need Within (stands (on_instance c x.instance)) (Missing 0) (Ok (on_instance c x.instance)) (omega arith, omega arith) (λ s.
    within (on_instance c x.instance) (on_instance_lem c x.instance (found_some x.info ClaimFits c w.info e) w.instance) s))))))

-- the laws of a format

limits_from : (r : Outcome Claim) → Sound Within r → KeepsLimits (keeps r (λ c. c ∷ []))
limits_from (Ok c) h = (h, tt)
limits_from (Err e) h = tt

refusals_from : (r : Outcome Claim) → Sound Within r → RefusesAsReader (keeps r (λ c. c ∷ []))
refusals_from (Ok c) h = tt
refusals_from (Err e) h = h

pub keeps_limits : (m : List ℕ) → KeepsLimits (reading m)
keeps_limits m = limits_from (message_of m) (message_sound m)

pub refuses_as_reader : (m : List ℕ) → RefusesAsReader (reading m)
refuses_as_reader m = refusals_from (message_of m) (message_sound m)
