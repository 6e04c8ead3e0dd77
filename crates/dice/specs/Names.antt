use Rattle.std.specs.Prelude.{ℕ, cond, List, [], ◌∷◌, Some, None, Option}
use Rattle.std.specs.Str.{bytes_eq}
use Rattle.claims.specs.declared.kinds.Algorithm.{Algorithm}
use Rattle.claims.specs.declared.kinds.Algorithm.TheVariants.{Sha256, Sha384, Sha512}
use Rattle.dice.specs.declared.kinds.Extension.{Extension}
use Rattle.dice.specs.declared.kinds.Extension.TheVariants.{TcbInfo, Ueid, Other}

-- the object identifiers of the extensions that are read
abbrev pub tcb_info : List ℕ
tcb_info = 0x67 ∷ 0x81 ∷ 0x05 ∷ 0x05 ∷ 0x04 ∷ 0x01 ∷ []

abbrev pub ueid : List ℕ
ueid = 0x67 ∷ 0x81 ∷ 0x05 ∷ 0x05 ∷ 0x04 ∷ 0x04 ∷ []

abbrev pub extension_of : List ℕ → Extension
extension_of name = cond (bytes_eq name tcb_info) TcbInfo (cond (bytes_eq name ueid) Ueid Other)

-- the object identifiers of the hash algorithms
abbrev pub sha256 : List ℕ
sha256 = 0x60 ∷ 0x86 ∷ 0x48 ∷ 0x01 ∷ 0x65 ∷ 0x03 ∷ 0x04 ∷ 0x02 ∷ 0x01 ∷ []

abbrev pub sha384 : List ℕ
sha384 = 0x60 ∷ 0x86 ∷ 0x48 ∷ 0x01 ∷ 0x65 ∷ 0x03 ∷ 0x04 ∷ 0x02 ∷ 0x02 ∷ []

abbrev pub sha512 : List ℕ
sha512 = 0x60 ∷ 0x86 ∷ 0x48 ∷ 0x01 ∷ 0x65 ∷ 0x03 ∷ 0x04 ∷ 0x02 ∷ 0x03 ∷ []

abbrev pub algorithm_named : List ℕ → Option Algorithm
algorithm_named name =
    cond (bytes_eq name sha256) (Some Sha256)
    (cond (bytes_eq name sha384) (Some Sha384)
    (cond (bytes_eq name sha512) (Some Sha512) None))
