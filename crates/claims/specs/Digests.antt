use Rattle.std.specs.Prelude.{ℕ, Bool, cond, List, is_some, Some, None, Option, Result, ◌==◌}
use Rattle.std.specs.Option.{option_map, ok_or}
use Rattle.claims.specs.Bytes.{kept_from}
use Rattle.claims.specs.declared.kinds.Algorithm.{Algorithm}
use Rattle.claims.specs.declared.kinds.Algorithm.TheVariants.{Sha256, Sha384, Sha512}
use Rattle.claims.specs.declared.kinds.Digests.{Digests}
use Rattle.claims.specs.declared.kinds.UnknownAlgorithm.{UnknownAlgorithm}

-- 1 is SHA-256, 7 SHA-384, 8 SHA-512
abbrev pub algorithm_of : ℕ → Option Algorithm
algorithm_of n = cond (n == 1) (Some Sha256) (cond (n == 7) (Some Sha384) (cond (n == 8) (Some Sha512) None))

-- the algorithm of a number, or that it names none
abbrev pub algorithm_from : ℕ → Result Algorithm UnknownAlgorithm
algorithm_from n = ok_or (algorithm_of n) (record { 0 = n })

abbrev pub no_digests : Digests
no_digests = record { sha256 = None; sha384 = None; sha512 = None }

-- a set with one digest more, of as many bytes as its algorithm makes
abbrev pub with_digest : Digests → Algorithm → List ℕ → Option Digests
with_digest s Sha256 xs = option_map (λ d. record { sha256 = Some d; sha384 = s.sha384; sha512 = s.sha512 }) (kept_from 32 32 xs)
with_digest s Sha384 xs = option_map (λ d. record { sha256 = s.sha256; sha384 = Some d; sha512 = s.sha512 }) (kept_from 48 48 xs)
with_digest s Sha512 xs = option_map (λ d. record { sha256 = s.sha256; sha384 = s.sha384; sha512 = Some d }) (kept_from 64 64 xs)

-- a set of one digest
abbrev pub digest_of : Algorithm → List ℕ → Option Digests
digest_of algorithm xs = with_digest no_digests algorithm xs

-- a digest of an algorithm is there
abbrev pub has_digest : Digests → Algorithm → Bool
has_digest s Sha256 = is_some s.sha256
has_digest s Sha384 = is_some s.sha384
has_digest s Sha512 = is_some s.sha512
