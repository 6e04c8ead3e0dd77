use Rattle.std.proofs.Common.{◌≡◌, ℕ, ltb, List, ◌++◌, length, Ok, ap, ◌∙◌, subst}
use Rattle.std.proofs.lemmas.Bool.{lt-ltb, ltb-true}
use Rattle.refusals.specs.Reading.{Outcome, need, above}
use Rattle.refusals.specs.declared.Refusal.TheVariants.{Unknown, OutOfLimits}
use Rattle.refusals.proofs.Outcomes.{need_back, need_true, ok_same}
use Rattle.claims.specs.Digests.{algorithm_of, no_digests, with_digest}
use Rattle.claims.specs.Environments.{no_environment}
use Rattle.claims.specs.Values.{no_flags}
use Rattle.claims.specs.declared.kinds.Digests.{Digests}
use Rattle.claims.specs.declared.kinds.Environment.{Environment}
use Rattle.parts.specs.Parts.{Piece}
use Rattle.parts.specs.declared.kinds.Read.{Read}
use Rattle.cbor.specs.Encodes.{Headed}
use Rattle.cbor.specs.Reads.{Reads}
use Rattle.cbor.proofs.Fields.{Back, stores_back, need_field, field_next, field_none}
use Rattle.cbor.proofs.Joins.{reads_made, reads_stores, reads_then, reads_by}
use Rattle.cbor.proofs.Rows.{reads_array, reads_map}
use Rattle.cbor.proofs.Rules.{reads_number, reads_number_to, reads_array_of, reads_truth}
use Rattle.cbor.proofs.Strings.{reads_text, reads_content_made}
use Rattle.cbor.proofs.Tags.{reads_tagged_bytes}
use Rattle.measurements.specs.Digests.{fresh, digest_pair, digest_at, digest_array}
use Rattle.measurements.specs.Environments.{in_class, in_environment, class_field, class_map, environment_field, environment_map}
use Rattle.measurements.specs.Flags.{flag_field, flag_map}
use Rattle.measurements.specs.Layout.{ClassField, identifier, vendor, model, layer, index, ClassOf, EnvironmentField, class, instance, EnvironmentOf, DigestPair, OneDigest, DigestsOf, FlagField, flag, FlagsOf, OneAuthority, authority, AuthoritiesOf}
use Rattle.measurements.specs.Listed.{none_listed, listing, authority_at, authority_array}
use Rattle.measurements.specs.declared.kinds.InAuthorities.{InAuthorities}
use Rattle.measurements.specs.declared.kinds.InClass.{InClass}
use Rattle.measurements.specs.declared.kinds.InEnvironment.{InEnvironment}
use Rattle.measurements.specs.declared.kinds.InFlags.{InFlags}

-- environments, digests, flags and listed authorities are read exactly as they are written

-- bytes at a place, and others behind them
abbrev pub from : ℕ → List ℕ → List ℕ → Piece
from at bs rest = record { at = at; bytes = bs ++ rest }

-- class maps

class_written : (s t : InClass) (key : ℕ) (bs rest : List ℕ) (key_at at : ℕ) → ClassField s key t bs → class_field s key key_at (from at bs rest) ≡ Ok (record { value = t; size = length bs })
class_written s t key bs rest key_at at (identifier {x = x} k) = rw ((reads_tagged_bytes 560 32 1).written x bs rest at k)
class_written s t key bs rest key_at at (vendor {x = x} k) = rw ((reads_text 32 1).written x bs rest at k)
class_written s t key bs rest key_at at (model {x = x} k) = rw ((reads_text 32 1).written x bs rest at k)
class_written s t key bs rest key_at at (layer {n = n} k) = rw ((reads_number_to 65535).written n bs rest at k)
class_written s t key bs rest key_at at (index {n = n} k) = rw ((reads_number_to 65535).written n bs rest at k)

class_back : (s : InClass) (key key_at : ℕ) → Back (class_field s key key_at) (ClassField s key)
class_back s key key_at =
    field_next (ClassField s) key 0 (stores_back (reads_tagged_bytes 560 32 1) _ (λ x bs k. identifier k))
    (field_next (ClassField s) key 1 (stores_back (reads_text 32 1) _ (λ x bs k. vendor k))
    (field_next (ClassField s) key 2 (stores_back (reads_text 32 1) _ (λ x bs k. model k))
    (field_next (ClassField s) key 3 (stores_back (reads_number_to 65535) _ (λ x bs k. layer k))
    (field_next (ClassField s) key 4 (stores_back (reads_number_to 65535) _ (λ x bs k. index k))
    (field_none (ClassField s) key (Unknown key_at))))))

class_reads : (e : Environment) → Reads (class_map e) (ClassOf e)
class_reads e =
    reads_stores (reads_map class_field ClassField (λ s key key_at. record { written = λ t bs rest at k. class_written s t key bs rest key_at at k; read = class_back s key key_at }) (in_class e)) (λ s. s.environment)

-- environment maps

environment_written : (s t : InEnvironment) (key : ℕ) (bs rest : List ℕ) (key_at at : ℕ) → EnvironmentField s key t bs → environment_field s key key_at (from at bs rest) ≡ Ok (record { value = t; size = length bs })
environment_written s t key bs rest key_at at (class {e = e} k) = rw ((class_reads s.environment).written e bs rest at k)
environment_written s t key bs rest key_at at (instance {x = x} k) = rw ((reads_tagged_bytes 550 33 7).written x bs rest at k)

environment_back : (s : InEnvironment) (key key_at : ℕ) → Back (environment_field s key key_at) (EnvironmentField s key)
environment_back s key key_at =
    field_next (EnvironmentField s) key 0 (stores_back (class_reads s.environment) _ (λ x bs k. class k))
    (field_next (EnvironmentField s) key 1 (stores_back (reads_tagged_bytes 550 33 7) _ (λ x bs k. instance k))
    (field_none (EnvironmentField s) key (Unknown key_at)))

pub environment_reads : Reads environment_map EnvironmentOf
environment_reads =
    reads_stores (reads_map environment_field EnvironmentField (λ s key key_at. record { written = λ t bs rest at k. environment_written s t key bs rest key_at at k; read = environment_back s key key_at }) (in_environment no_environment)) (λ s. s.environment)

-- digests

pair_reads : (s : Digests) → Reads (digest_pair s) (DigestPair s)
pair_reads s =
    reads_then (reads_array_of 2) (λ _.
    reads_then (reads_made reads_number (λ n. fresh s (algorithm_of n)) (λ p. Unknown p.at)) (λ a.
    reads_content_made (with_digest s a) (λ p. OutOfLimits p.at)))

pub digests_reads : Reads digest_array DigestsOf
digests_reads = reads_stores (reads_array digest_at OneDigest (λ s. reads_stores (pair_reads s.digests) (λ t. record { digests = t })) (record { digests = no_digests })) (λ s. s.digests)

-- flags

flag_written : (s t : InFlags) (key : ℕ) (bs rest : List ℕ) (key_at at : ℕ) → FlagField s key t bs → flag_field s key key_at (from at bs rest) ≡ Ok (record { value = t; size = length bs })
flag_written s t key bs rest key_at at (flag {b = b} below k) = need_true _ _ _ (lt-ltb key 10 below) ∙ rw (reads_truth.written b bs rest at k)

flag_back : (s : InFlags) (key key_at : ℕ) → Back (flag_field s key key_at) (FlagField s key)
flag_back s key key_at = need_field (ltb key 10) (Unknown key_at) (λ below. stores_back reads_truth _ (λ b bs k. flag (ltb-true key 10 below) k))

pub flags_reads : Reads flag_map FlagsOf
flags_reads =
    reads_stores (reads_map flag_field FlagField (λ s key key_at. record { written = λ t bs rest at k. flag_written s t key bs rest key_at at k; read = flag_back s key key_at }) (record { flags = no_flags })) (λ s. s.flags)

-- listed authorities

abbrev lists : InAuthorities → Piece → Read ℕ → Outcome (Read InAuthorities)
lists s p n = need (above s.last n.value) (Unknown p.at) (need (ltb n.value 64) (OutOfLimits p.at) (Ok (record { value = listing s n.value; size = n.size })))

authority_reads : (s : InAuthorities) → Reads (authority_at s) (OneAuthority s)
authority_reads s = reads_by reads_number (lists s) (OneAuthority s) forth back
  where
    forth : (t : InAuthorities) (bs : List ℕ) → OneAuthority s t bs → (n : ℕ) × Headed 0 n bs × ((p : Piece) → lists s p (record { value = n; size = length bs }) ≡ Ok (record { value = t; size = length bs }))
    forth t bs (authority {n = n} k rises below) = (n, k, λ p. need_true _ _ _ rises ∙ need_true _ _ _ (lt-ltb n 64 below))

    back : (p : Piece) (n : Read ℕ) (t : Read InAuthorities) → lists s p n ≡ Ok t → ((bs : List ℕ) → Headed 0 n.value bs → OneAuthority s t.value bs) × (n.size ≡ t.size)
    back p n t e =
        let a = need_back (above s.last n.value) _ _ t e in
        let b = need_back (ltb n.value 64) _ _ t a.1 in
        let same : record { value = listing s n.value; size = n.size } ≡ t = ok_same _ t b.1 in (
          λ bs k. subst (λ (z : Read InAuthorities). OneAuthority s z.value bs) same (authority k a.0 (ltb-true n.value 64 b.0)),
          ap (λ (z : Read InAuthorities). z.size) same,
        )

pub authorities_reads : Reads authority_array AuthoritiesOf
authorities_reads = reads_stores (reads_array authority_at OneAuthority authority_reads none_listed) (λ s. s.listed)
