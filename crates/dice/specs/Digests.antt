use Rattle.std.specs.Prelude.{ℕ, not, Ok}
use Rattle.refusals.specs.Reading.{Outcome, onward, keeps, need, or_refuse}
use Rattle.refusals.specs.declared.Refusal.TheVariants.{Malformed, Unknown, OutOfLimits, Missing}
use Rattle.claims.specs.Digests.{no_digests, with_digest, has_digest}
use Rattle.claims.specs.declared.kinds.Algorithm.{Algorithm}
use Rattle.claims.specs.declared.kinds.Digests.{Digests}
use Rattle.parts.specs.Parts.{Piece}
use Rattle.parts.specs.Parts.{some, none, before}
use Rattle.der.specs.Kinds.{is_octets, is_identifier, is_sequence, item_at}
use Rattle.parts.specs.Holders.{Element, elements_in}
use Rattle.dice.specs.declared.kinds.Gathered.{Gathered}
use Rattle.dice.specs.Names.{algorithm_named}

-- the OCTET STRING of a digest, which fills what is left of the SEQUENCE at a place
abbrev pub digest_value : Digests → Algorithm → ℕ → Piece → Outcome Digests
digest_value s algorithm at p =
    need (some p) (Missing at)
    (onward (item_at is_octets p) (λ value.
    or_refuse (with_digest s algorithm value.content.bytes) (OutOfLimits p.at) (λ t.
    need (none value.rest) (Malformed value.rest.at)
    (Ok t))))

-- the object identifier of an algorithm that did not come before, and the digest
abbrev pub digest_parts : Digests → ℕ → Piece → Outcome Digests
digest_parts s at p =
    need (some p) (Missing at)
    (onward (item_at is_identifier p) (λ name.
    or_refuse (algorithm_named name.content.bytes) (Unknown p.at) (λ algorithm.
    need (not (has_digest s algorithm)) (Unknown p.at)
    (digest_value s algorithm at name.rest))))

-- a SEQUENCE of them
abbrev pub digest_at : Element Gathered
digest_at s p =
    onward (item_at is_sequence p) (λ h.
    onward (digest_parts s.digests p.at h.content) (λ t.
    Ok (record { value = record { digests = t }; size = before p h.rest })))

-- the digests of the field at a place
abbrev pub digests_in : ℕ → Piece → Outcome Digests
digests_in at p = need (some p) (Missing at) (keeps (elements_in digest_at (record { digests = no_digests }) p) (λ s. s.digests))
