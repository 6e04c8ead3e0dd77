use Rattle.std.specs.Prelude.{cond, Some, None, Ok, Option}
use Rattle.refusals.specs.Reading.{onward, or_refuse}
use Rattle.refusals.specs.declared.Refusal.TheVariants.{Unknown, OutOfLimits}
use Rattle.claims.specs.Digests.{algorithm_of, no_digests, with_digest, has_digest}
use Rattle.claims.specs.declared.kinds.Algorithm.{Algorithm}
use Rattle.claims.specs.declared.kinds.Digests.{Digests}
use Rattle.parts.specs.Holders.{Element}
use Rattle.cbor.specs.Holders.{array_by}
use Rattle.cbor.specs.Items.{is_bytes}
use Rattle.cbor.specs.Scalars.{Rule, stores, then, item_as, number_at, array_of}
use Rattle.measurements.specs.declared.kinds.InDigests.{InDigests}

-- the algorithm, if it is there and did not come before
abbrev pub fresh : Digests → Option Algorithm → Option Algorithm
fresh s None = None
fresh s (Some a) = cond (has_digest s a) None (Some a)

-- the number of an algorithm that did not come before
abbrev pub algorithm_at : Digests → Rule Algorithm
algorithm_at s p =
    onward (number_at p) (λ n.
    or_refuse (fresh s (algorithm_of n.value)) (Unknown p.at) (λ a.
    Ok (record { value = a; size = n.size })))

-- the bytes of a digest, as many as its algorithm makes
abbrev pub digest_bytes : Digests → Algorithm → Rule Digests
digest_bytes s a p =
    onward (item_as is_bytes p) (λ b.
    or_refuse (with_digest s a b.value.bytes) (OutOfLimits p.at) (λ t.
    Ok (record { value = t; size = b.size })))

-- [algorithm, bytes]
abbrev pub digest_pair : Digests → Rule Digests
digest_pair s = then (array_of 2) (λ _. then (algorithm_at s) (digest_bytes s))

abbrev pub digest_at : Element InDigests
digest_at s p = stores (digest_pair s.digests p) (λ t. record { digests = t })

-- an array of digests, in any order
abbrev pub digest_array : Rule Digests
digest_array p = stores (array_by digest_at (record { digests = no_digests }) p) (λ s. s.digests)
