use Rattle.std.proofs.Common.{◌≡◌, ℕ, ◌≤◌, not, ltb, List, [], ◌∷◌, ◌++◌, length, IfOk, Ok, Err, refl, arith}
use Rattle.std.specs.List.{AllByRecursion}
use Rattle.std.proofs.ByRecursion.{All-append, All-weaker}
use Rattle.refusals.specs.Reading.{Outcome}
use Rattle.refusals.specs.declared.Refusal.TheVariants.{Malformed, Unknown}
use Rattle.claims.specs.Claims.{no_claim}
use Rattle.claims.specs.Limits.{Within}
use Rattle.conditions.specs.Limits.{WithinCondition}
use Rattle.conditions.specs.Wanted.{no_condition}
use Rattle.conditions.specs.declared.kinds.Condition.{Condition}
use Rattle.parts.specs.Parts.{whole_of}
use Rattle.parts.proofs.Sound.{Sound, sound_onward, sound_need, sound_or_refuse, sound_made, sound_refused}
use Rattle.cbor.specs.Holders.{array_by}
use Rattle.cbor.specs.Scalars.{Rule}
use Rattle.cbor.proofs.Limits.{Of, Yields, sound_stores, sound_then, sound_array_of, sound_array, sound_map}
use Rattle.measurements.specs.Measurements.{in_condition, in_addition}
use Rattle.records.specs.Additions.{additions_of}
use Rattle.records.specs.Few.{few_of}
use Rattle.records.specs.Limits.{Each, WithinConditions}
use Rattle.records.specs.declared.kinds.Few.{Few}
use Rattle.records.proofs.Limits.{Rightly, none_each, joined_each, condition_limits, head_limits, maps_limits, records_limits, conditions_within, additions_within, additions_some}
use Rattle.manifests.specs.Laws.{ReadAsWritten, WalkedWhole}
use Rattle.manifests.specs.Limits.{WithinTriple}
use Rattle.manifests.specs.Triples.{alone, only_condition, reference_of, endorsement_of, one, collects, reference_at, section_of, element_of, triples_under, manifest_map, triples_of}
use Rattle.manifests.specs.declared.kinds.Section.{Section}
use Rattle.manifests.specs.declared.kinds.Section.TheVariants.{References, Endorsements, Conditionals}
use Rattle.manifests.specs.declared.kinds.Triple.{Triple}
use Rattle.manifests.proofs.Leaving.{left_begun, left_step}
use Rattle.manifests.proofs.Written.{manifest_written, manifest_read}

-- the triples of a manifest are the signer's and within their limits

pub record Right (signer : ℕ) (t : Triple) : Type 0 where
  pub own : t.signer ≡ signer
  pub within : WithinTriple t

only_within : (c : Condition) → WithinCondition c → WithinConditions (only_condition c)
only_within c k = record { some = omega arith; each = joined_each WithinCondition (few_of no_condition) c (none_each WithinCondition no_condition) k }

reference_right : (signer : ℕ) (c : Condition) → WithinCondition c → Right signer (reference_of signer c)
reference_right signer c k = record { own = refl; within = record { conditions = only_within c k; additions = none_each Within no_claim; counts = (refl, refl) } }

endorsement_right : (signer : ℕ) (cs : Few Condition) (found : Few Condition) → WithinConditions cs → 1 ≤ found.count → Each (Rightly in_addition) found → Right signer (endorsement_of signer cs (additions_of found))
endorsement_right signer cs found k some each = record { own = refl; within = record { conditions = k; additions = additions_within found each; counts = additions_some found some each } }

abbrev Rights : ℕ → List Triple → Type 0
Rights signer ts = AllByRecursion (Right signer) ts

one_right : {signer : ℕ} {rule : Rule Triple} → Yields (Right signer) rule → Yields (Rights signer) (one rule)
one_right yields = sound_stores yields (λ t. t ∷ []) (λ t k. (k, tt))

collected_right : (signer : ℕ) (rule : Rule (List Triple)) → Yields (Rights signer) rule → (ts : List Triple) → Rights signer ts → Yields (Rights signer) (array_by (collects rule) ts)
collected_right signer rule yields ts h =
    sound_array (Rights signer) (collects rule) (λ us k. sound_stores yields (λ vs. us ++ vs) (λ vs l. All-append (Right signer) us vs k l)) ts h

element_right : (signer : ℕ) (s : Section) → Yields (Rights signer) (element_of signer s)
element_right signer References =
    sound_then head_limits (λ e k.
    collected_right signer (one (reference_at signer e)) (one_right (sound_stores (condition_limits in_condition e k) (reference_of signer) (λ c r. reference_right signer c r.within))) [] tt)
element_right signer Endorsements =
    one_right (sound_then head_limits (λ e k.
    sound_stores (maps_limits in_addition (few_of no_condition) e k (none_each (Rightly in_addition) no_condition)) _ (λ found h.
    endorsement_right signer (only_condition (alone e)) found (only_within (alone e) (record { environment = k; wanted = tt })) h.0 h.1)))
element_right signer Conditionals =
    one_right (sound_then (sound_array_of 2) (λ _ _.
    sound_then (records_limits in_condition) (λ cs k.
    sound_stores (records_limits in_addition) _ (λ found h. endorsement_right signer cs found (conditions_within in_condition cs k) h.0 h.1))))

under_right : (signer : ℕ) (ts : List Triple) (key at : ℕ) → Rights signer ts → Yields (Rights signer) (triples_under signer ts key at)
under_right signer ts key at h = record {
  sound = λ p.
      sound_or_refuse (Of (Rights signer)) (section_of key) (Unknown at) _ (omega arith, omega arith) (λ s _.
      (collected_right signer (element_of signer s) (element_right signer s) ts h).sound p);
}

triples_right : (signer : ℕ) (m : List ℕ) → Sound (Rights signer) (triples_of signer m)
triples_right signer m =
    sound_onward (Of (Rights signer)) (Rights signer) (manifest_map signer (whole_of m)) _ ((sound_map (Rights signer) (triples_under signer) (under_right signer) [] tt).sound (whole_of m)) (λ r h.
    sound_need (Rights signer) (not (ltb r.size (length m))) (Malformed r.size) (Ok r.value) (omega arith, omega arith) (λ _. h))

made_weaker : {A : Type 0} (P Q : A → Type 0) → ((x : A) → P x → Q x) → (r : Outcome A) → IfOk r P → IfOk r Q
made_weaker P Q to (Ok x) h = to x h
made_weaker P Q to (Err e) h = tt

pub read_as_written : (signer : ℕ) (m : List ℕ) → ReadAsWritten signer m
read_as_written signer m =
    let right = sound_made (Rights signer) (triples_of signer m) (triples_right signer m) in
    record {
      read = manifest_read signer m;
      written = manifest_written signer m;
      signers = made_weaker (Rights signer) (AllByRecursion (λ t. t.signer ≡ signer)) (All-weaker (Right signer) (λ t. t.signer ≡ signer) (λ t k. k.own)) (triples_of signer m) right;
      limits = made_weaker (Rights signer) (AllByRecursion WithinTriple) (All-weaker (Right signer) WithinTriple (λ t k. k.within)) (triples_of signer m) right;
      refusals = sound_refused (Rights signer) (triples_of signer m) (triples_right signer m);
    }

pub walked_whole : (m : List ℕ) → WalkedWhole m
walked_whole m = record { begins = λ signer. left_begun signer m; goes_on = λ c. left_step c m }
