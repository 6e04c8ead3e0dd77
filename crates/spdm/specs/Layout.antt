use Rattle.std.specs.Prelude.{◌≡◌, ℕ, ◌+◌, ◌≤◌, true, List, [], ◌∷◌, ◌++◌, length, Some, None, Option}
use Rattle.refusals.specs.Reading.{above}
use Rattle.claims.specs.Bytes.{bounded}
use Rattle.claims.specs.declared.kinds.Algorithm.{Algorithm}
use Rattle.claims.specs.declared.kinds.Algorithm.TheVariants.{Sha256, Sha384, Sha512}
use Rattle.claims.specs.declared.kinds.Digests.{Digests}
use Rattle.claims.specs.declared.kinds.Values.{Values}
use Rattle.claims.specs.declared.kinds.Claim.{Claim}
use Rattle.spdm.specs.Blocks.{Block, little}
use Rattle.claims.specs.Values.{no_values, with_svn, with_digests, with_raw}
use Rattle.spdm.specs.Claims.{claimed}
use Rattle.spdm.specs.declared.kinds.Setup.{Setup}

-- the bytes of a block: index, specification, size, type, value size, value. A size is two bytes, low byte first
pub data Written : Block → List ℕ → Type 0 where
  written : {index specification kind a b c d : ℕ} {value : List ℕ}
      → little (a ∷ b ∷ []) ≡ length value + 3 → little (c ∷ d ∷ []) ≡ length value
      → Written (record { index = index; specification = specification; kind = kind; value = value })
      (index ∷ specification ∷ a ∷ b ∷ kind ∷ c ∷ d ∷ value)

-- a digest has as many bytes as its algorithm makes
pub data Digest : Algorithm → List ℕ → Digests → Type 0 where
  sha256 : {v : List ℕ} → length v ≡ 32 → Digest Sha256 v (record { sha256 = Some (bounded 32 v); sha384 = None; sha512 = None })
  sha384 : {v : List ℕ} → length v ≡ 48 → Digest Sha384 v (record { sha256 = None; sha384 = Some (bounded 48 v); sha512 = None })
  sha512 : {v : List ℕ} → length v ≡ 64 → Digest Sha512 v (record { sha256 = None; sha384 = None; sha512 = Some (bounded 64 v) })

-- what a value says, by the algorithm of the set-up and the type of the value
pub data Says (algorithm : Algorithm) : ℕ → List ℕ → Values → Type 0 where
  digest : {kind : ℕ} {v : List ℕ} {d : Digests} → kind ≤ 0x04 → Digest algorithm v d → Says algorithm kind v (with_digests no_values d)
  raw : {kind : ℕ} {v : List ℕ} → 0x80 ≤ kind → kind ≤ 0x84 → 1 ≤ length v → length v ≤ 64 → Says algorithm kind v (with_raw no_values (bounded 64 v))
  svn : {v : List ℕ} → length v ≡ 8 → little v ≤ 4294967295 → Says algorithm 0x87 v (with_svn no_values (little v))

-- the claim that a block within its limits makes
pub data Makes (s : Setup) : Block → Claim → Type 0 where
  makes : {b : Block} {values : Values} → 1 ≤ b.index → b.index ≤ 239 → b.specification ≡ 0x01
      → Says s.algorithm b.kind b.value values → Makes s b (claimed s b.index values)

-- m is a row of blocks that make the claims cs; their indexes rise over `last`, and the last of them is `to`
pub data Row (s : Setup) : Option ℕ → List Claim → Option ℕ → List ℕ → Type 0 where
  none : {last : Option ℕ} → Row s last [] last []
  more : {last to : Option ℕ} {b : Block} {c : Claim} {cs : List Claim} {bs m : List ℕ}
      → Written b bs → above last b.index ≡ true → Makes s b c → Row s (Some b.index) cs to m → Row s last (c ∷ cs) to (bs ++ m)
