use Rattle.std.specs.Prelude.{ℕ, Bool, false, not, is_some, Some, None, Ok}
use Rattle.refusals.specs.Reading.{Outcome, onward, keeps, need}
use Rattle.refusals.specs.declared.Refusal.TheVariants.{Malformed, Unknown, Missing}
use Rattle.claims.specs.declared.kinds.Bytes.{Bytes}
use Rattle.der.specs.Contents.{bytes_in}
use Rattle.parts.specs.Holders.{Element}
use Rattle.parts.specs.Parts.{some, none, before}
use Rattle.der.specs.Kinds.{is_octets, is_identifier, is_sequence, item_at, after_boolean}
use Rattle.parts.specs.Parts.{Piece}
use Rattle.dice.specs.Fields.{info_in}
use Rattle.dice.specs.Names.{extension_of}
use Rattle.dice.specs.declared.kinds.Extension.{Extension}
use Rattle.dice.specs.declared.kinds.Extension.TheVariants.{TcbInfo, Ueid, Other}
use Rattle.dice.specs.declared.kinds.Extensions.{Extensions}

-- DiceUeid, which fills the OCTET STRING at a place: a SEQUENCE of one OCTET STRING, the instance
abbrev pub ueid_in : ℕ → Piece → Outcome (Bytes 33)
ueid_in at p =
    need (some p) (Missing at)
    (onward (item_at is_sequence p) (λ h.
    need (some h.content) (Missing p.at)
    (onward (item_at is_octets h.content) (λ value.
    onward (bytes_in 33 7 h.content.at value.content.bytes) (λ instance.
    need (none value.rest) (Malformed value.rest.at)
    (need (none h.rest) (Malformed h.rest.at)
    (Ok instance)))))))

-- what the OCTET STRING at a place holds
abbrev pub held_by : Extension → Extensions → ℕ → Piece → Outcome Extensions
held_by TcbInfo s at p = keeps (info_in at p) (λ c. record { info = Some c; instance = s.instance })
held_by Ueid s at p = keeps (ueid_in at p) (λ b. record { info = s.info; instance = Some b })
held_by Other s at p = Ok s

-- an extension that is read comes again
abbrev pub again : Extension → Extensions → Bool
again TcbInfo s = is_some s.info
again Ueid s = is_some s.instance
again Other s = false

-- the OCTET STRING, which fills what is left of the extension at a place
abbrev pub extension_value : Extension → Extensions → ℕ → Piece → Outcome Extensions
extension_value name s at p =
    need (some p) (Missing at)
    (onward (item_at is_octets p) (λ value.
    onward (held_by name s p.at value.content) (λ t.
    need (none value.rest) (Malformed value.rest.at)
    (Ok t))))

-- what follows the object identifier: perhaps a BOOLEAN, and the OCTET STRING
abbrev pub after_name : Extension → Extensions → ℕ → Piece → Outcome Extensions
after_name name s at p =
    need (some p) (Missing at)
    (onward (after_boolean p) (λ q. extension_value name s at q))

-- the parts of the extension at a place
abbrev pub extension_parts : Extensions → ℕ → Piece → Outcome Extensions
extension_parts s at p =
    need (some p) (Missing at)
    (onward (item_at is_identifier p) (λ name.
    need (not (again (extension_of name.content.bytes) s)) (Unknown at)
    (after_name (extension_of name.content.bytes) s at name.rest)))

-- a SEQUENCE of them
abbrev pub extension_at : Element Extensions
extension_at s p =
    onward (item_at is_sequence p) (λ h.
    onward (extension_parts s p.at h.content) (λ t.
    Ok (record { value = t; size = before p h.rest })))

abbrev pub no_extensions : Extensions
no_extensions = record { info = None; instance = None }
