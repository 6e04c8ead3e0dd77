use Rattle.std.specs.Prelude.{◌≡◌, ℕ, List, ◌++◌, length, Ok}
use Rattle.parts.specs.Parts.{Piece}
use Rattle.parts.specs.declared.kinds.Read.{Read}
use Rattle.cbor.specs.Scalars.{Rule}

-- a part begins with bytes of a kind, as many as were read, and they write what was read
pub record Begins {A : Type 0} (Kind : A → List ℕ → Type 0) (p : Piece) (x : Read A) : Type 0 where
  pub bytes : List ℕ
  pub rest : List ℕ
  pub kind : Kind x.value bytes
  pub whole : p.bytes ≡ bytes ++ rest
  pub long : length bytes ≡ x.size

-- a rule reads exactly the bytes of a kind: they are read as what they write, whatever follows them and wherever they stand; and what is read was written there
pub record Reads {A : Type 0} (rule : Rule A) (Kind : A → List ℕ → Type 0) : Type 0 where
  pub written : (x : A) (bs rest : List ℕ) (at : ℕ) → Kind x bs → rule (record { at = at; bytes = bs ++ rest }) ≡ Ok (record { value = x; size = length bs })
  pub read : (p : Piece) (x : Read A) → rule p ≡ Ok x → Begins Kind p x
