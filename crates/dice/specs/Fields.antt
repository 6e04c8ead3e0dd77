use Rattle.std.specs.Prelude.{◌≡◌, ◌≢◌, Result, ℕ, ◌%◌, Bool, true, cond, ◌||◌, List, length, Some, None, Ok, Err, ◌==◌, nat_lt}
use Rattle.refusals.specs.Reading.{Outcome, onward, keeps, need, or_refuse, above}
use Rattle.refusals.specs.declared.Refusal.TheVariants.{Malformed, Unknown, Missing}
use Rattle.claims.specs.Claims.{no_claim}
use Rattle.claims.specs.Environments.{with_class, with_vendor, with_model, with_layer, with_index}
use Rattle.claims.specs.Values.{with_version, with_svn, with_digests, with_flags, with_raw}
use Rattle.claims.specs.declared.kinds.Environment.{Environment}
use Rattle.claims.specs.declared.kinds.Values.{Values}
use Rattle.claims.specs.declared.kinds.Claim.{Claim}
use Rattle.der.specs.Contents.{bytes_in, shortest, integer_in}
use Rattle.parts.specs.Holders.{Element, elements_in}
use Rattle.der.specs.Items.{item_of}
use Rattle.parts.specs.Parts.{some, none, before}
use Rattle.der.specs.Kinds.{Holder, is_field, is_sequence, item_at}
use Rattle.parts.specs.Parts.{Piece}
use Rattle.dice.specs.Digests.{digests_in}
use Rattle.dice.specs.Flags.{flags_in}
use Rattle.dice.specs.declared.kinds.Field.{Field}
use Rattle.dice.specs.declared.kinds.Field.TheVariants.{Vendor, Model, Version, Svn, Layer, Index, Digests, Flags, Raw, Class}
use Rattle.dice.specs.declared.kinds.UnknownTag.{UnknownTag}
use Rattle.dice.specs.declared.kinds.Fields.{Fields}

abbrev pub in_environment : Claim → Environment → Claim
in_environment c e = record { environment = e; key = c.key; values = c.values }

abbrev pub in_values : Claim → Values → Claim
in_values c v = record { environment = c.environment; key = c.key; values = v }

-- the tag of a field
abbrev pub tag_of : Field → ℕ
tag_of Vendor = 0x80
tag_of Model = 0x81
tag_of Version = 0x82
tag_of Svn = 0x83
tag_of Layer = 0x84
tag_of Index = 0x85
tag_of Digests = 0xA6
tag_of Flags = 0x87
tag_of Raw = 0x88
tag_of Class = 0x89

-- a tag that is none of a field's
abbrev pub IsUnknown : ℕ → Type 0
IsUnknown tag = (field : Field) → tag_of field ≢ tag

-- the field whose tag this is; or it is the tag of none
abbrev pub IsTagged : ℕ → Result Field UnknownTag → Type 0
IsTagged tag (Ok field) = tag_of field ≡ tag
IsTagged tag (Err error) = (error.0 ≡ tag) × IsUnknown tag

-- numbers are shortest INTEGERs, and flags have their count of unused bits
abbrev pub formed : ℕ → List ℕ → Bool
formed tag c =
    cond (tag == 0x83) (shortest c)
    (cond (tag == 0x84) (shortest c)
    (cond (tag == 0x85) (shortest c)
    (cond (tag == 0x87) (nat_lt 0 (length c))
    true)))

-- a field of the environment
abbrev pub environment_field : Environment → ℕ → ℕ → List ℕ → Outcome Environment
environment_field e tag at c =
    cond (tag == 0x80) (keeps (bytes_in 32 1 at c) (with_vendor e))
    (cond (tag == 0x81) (keeps (bytes_in 32 1 at c) (with_model e))
    (cond (tag == 0x84) (keeps (integer_in 65535 at c) (with_layer e))
    (cond (tag == 0x85) (keeps (integer_in 65535 at c) (with_index e))
    (cond (tag == 0x89) (keeps (bytes_in 32 1 at c) (with_class e))
    (Err (Unknown at))))))

-- a field of the values
abbrev pub value_field : Values → ℕ → ℕ → Piece → Outcome Values
value_field v tag at p =
    cond (tag == 0x82) (keeps (bytes_in 32 1 at p.bytes) (with_version v))
    (cond (tag == 0x83) (keeps (integer_in 4294967295 at p.bytes) (with_svn v))
    (cond (tag == 0xA6) (keeps (digests_in at p) (with_digests v))
    (cond (tag == 0x87) (keeps (flags_in at p.bytes) (with_flags v))
    (cond (tag == 0x88) (keeps (bytes_in 64 1 at p.bytes) (with_raw v))
    (Err (Unknown at))))))

-- the tags whose fields are values
abbrev pub of_values : ℕ → Bool
of_values tag = tag == 0x82 || tag == 0x83 || tag == 0xA6 || tag == 0x87 || tag == 0x88

-- what a field says, by its tag
abbrev pub field_says : Claim → ℕ → ℕ → Piece → Outcome Claim
field_says c tag at p =
    cond (of_values tag)
    (keeps (value_field c.values tag at p) (in_values c))
    (keeps (environment_field c.environment tag at p.bytes) (in_environment c))

-- a field: an item whose content has the form that its tag asks for, its tag's number above the one before
abbrev pub field_at : Element Fields
field_at s p =
    or_refuse (item_of p) (Malformed p.at) (λ f.
    or_refuse (is_field f.item) (Unknown p.at) (λ x.
    need (formed x.0 x.1.bytes) (Malformed p.at)
    (need (above s.last (x.0 % 32)) (Unknown p.at)
    (onward (field_says s.claim x.0 p.at x.1) (λ c.
    Ok (record { value = record { last = Some (x.0 % 32); claim = c }; size = before p f.rest }))))))

abbrev pub no_fields : Fields
no_fields = record { last = None; claim = no_claim }

-- the fields that fill the SEQUENCE at a place, behind which nothing follows
abbrev pub fields_of : ℕ → Holder → Outcome Claim
fields_of at h =
    need (some h.content) (Missing at)
    (onward (elements_in field_at no_fields h.content) (λ f.
    need (none h.rest) (Malformed h.rest.at)
    (Ok f.claim)))

-- DiceTcbInfo, which fills the OCTET STRING at a place
abbrev pub info_in : ℕ → Piece → Outcome Claim
info_in at p = need (some p) (Missing at) (onward (item_at is_sequence p) (λ h. fields_of p.at h))
