use Rattle.std.proofs.Common.{◌≡◌, ℕ, List, Some, None, decimal, Option, refl}
use Rattle.std.specs.Option.{option_map}
use Rattle.claims.specs.Bytes.{content}
use Rattle.claims.specs.declared.kinds.Bytes.{Bytes}
use Rattle.script.specs.Hex.{hex_text}
use Rattle.script.specs.declared.hex.Hex.{Hex}
use Rattle.text.specs.Claims.{field_text, bytes_field, number_field}

-- a byte string under its label, by the bytes that print for it
pub hex_shown : {N : ℕ} (label : List ℕ) (shown : Option Hex) (field : Option (Bytes N)) → option_map (λ (h : Hex). h.0.now) shown ≡ option_map content field
    → field_text (λ (h : Hex). Some (hex_text h.0.now)) label shown ≡ Some (bytes_field label field)
hex_shown label None None e = refl
hex_shown label None (Some b) e = cc
hex_shown label (Some h) None e = cc
hex_shown label (Some h) (Some b) e = let k : h.0.now ≡ content b = cc in rw k

-- a number under its label
pub number_shown : (label : List ℕ) (field : Option ℕ) → field_text (λ n. Some (decimal n)) label field ≡ Some (number_field label field)
number_shown label None = refl
number_shown label (Some n) = refl
