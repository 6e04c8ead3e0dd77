use Rattle.std.specs.Prelude.{◌≡◌, ℕ, ◌%◌, ◌<◌, ◌≤◌, true, false, List, [], ◌∷◌, ◌++◌, length, Some, None, Option, slice_index}
use Rattle.refusals.specs.Reading.{above}
use Rattle.claims.specs.Bytes.{bounded}
use Rattle.claims.specs.Digests.{no_digests, with_digest, has_digest}
use Rattle.claims.specs.Environments.{with_class, with_vendor, with_model, with_layer, with_index}
use Rattle.claims.specs.Values.{with_version, with_svn, with_digests, with_flags, with_raw}
use Rattle.claims.specs.Limits.{stands}
use Rattle.claims.specs.declared.kinds.Algorithm.{Algorithm}
use Rattle.claims.specs.declared.kinds.Bytes.{Bytes}
use Rattle.claims.specs.declared.kinds.Digests.{Digests}
use Rattle.claims.specs.declared.kinds.Flags.{Flags}
use Rattle.claims.specs.declared.kinds.Claim.{Claim}
use Rattle.der.specs.Encodes.{Coded, Chain, Number}
use Rattle.dice.specs.Names.{tcb_info, ueid, algorithm_named, extension_of}
use Rattle.dice.specs.Flags.{flags_of, padded}
use Rattle.dice.specs.Fields.{in_environment, in_values, no_fields}
use Rattle.dice.specs.Extensions.{no_extensions}
use Rattle.dice.specs.Messages.{on_instance}
use Rattle.dice.specs.declared.kinds.Gathered.{Gathered}
use Rattle.dice.specs.declared.kinds.Fields.{Fields}
use Rattle.dice.specs.declared.kinds.Extension.TheVariants.{Other}
use Rattle.dice.specs.declared.kinds.Extensions.{Extensions}

-- at least `least` bytes and at most N
pub data Kept (N least : ℕ) : Bytes N → List ℕ → Type 0 where
  kept : {c : List ℕ} → least ≤ length c → length c ≤ N → Kept N least (bounded N c) c

-- a count of unused bits, and 0 to 4 bytes of bits whose unused bits are 0
pub data Bits : Flags → List ℕ → Type 0 where
  bits : {c : List ℕ} → 0 < length c → length c ≤ 5 → slice_index c 0 ≤ 7 → padded c ≡ true → Bits (flags_of c) c

-- the bytes of one digest: a SEQUENCE of an algorithm's object identifier and an OCTET STRING; its algorithm is a new one
pub data DigestOf (s : Gathered) : Gathered → List ℕ → Type 0 where
  digest : {algorithm : Algorithm} {t : Digests} {name c a e v : List ℕ}
      → algorithm_named name ≡ Some algorithm → has_digest s.digests algorithm ≡ false → with_digest s.digests algorithm c ≡ Some t
      → Coded 0x06 name a → Coded 0x04 c e → Coded 0x30 (a ++ e) v → DigestOf s (record { digests = t }) v

-- what a content says under a tag, and the claim s with it
pub data Says (s : Claim) : ℕ → Claim → List ℕ → Type 0 where
  vendor : {x : Bytes 32} {c : List ℕ} → Kept 32 1 x c → Says s 0x80 (in_environment s (with_vendor s.environment x)) c
  model : {x : Bytes 32} {c : List ℕ} → Kept 32 1 x c → Says s 0x81 (in_environment s (with_model s.environment x)) c
  version : {x : Bytes 32} {c : List ℕ} → Kept 32 1 x c → Says s 0x82 (in_values s (with_version s.values x)) c
  svn : {n : ℕ} {c : List ℕ} → Number 4294967295 n c → Says s 0x83 (in_values s (with_svn s.values n)) c
  layer : {n : ℕ} {c : List ℕ} → Number 65535 n c → Says s 0x84 (in_environment s (with_layer s.environment n)) c
  index : {n : ℕ} {c : List ℕ} → Number 65535 n c → Says s 0x85 (in_environment s (with_index s.environment n)) c
  digests : {d : Gathered} {c : List ℕ} → 0 < length c → Chain DigestOf (record { digests = no_digests }) d c
      → Says s 0xA6 (in_values s (with_digests s.values d.digests)) c
  flags : {f : Flags} {c : List ℕ} → Bits f c → Says s 0x87 (in_values s (with_flags s.values f)) c
  raw : {x : Bytes 64} {c : List ℕ} → Kept 64 1 x c → Says s 0x88 (in_values s (with_raw s.values x)) c
  class : {x : Bytes 32} {c : List ℕ} → Kept 32 1 x c → Says s 0x89 (in_environment s (with_class s.environment x)) c

-- one field: an item of a tag whose number is above the one before
pub data FieldOf (s : Fields) : Fields → List ℕ → Type 0 where
  field_of : {tag : ℕ} {t : Claim} {c v : List ℕ} → Coded tag c v → above s.last (tag % 32) ≡ true → Says s.claim tag t c
      → FieldOf s (record { last = Some (tag % 32); claim = t }) v

-- the bytes bs are fields, any selection of them, in rising order of their tags' numbers, that say the claim c
abbrev pub Writes : Claim → List ℕ → Type 0
Writes c bs = (last : Option ℕ) × Chain FieldOf no_fields (record { last = last; claim = c }) bs

-- perhaps a BOOLEAN
pub data Perhaps : List ℕ → Type 0 where
  absent : Perhaps []
  said_no : {v : List ℕ} → Coded 0x01 (0x00 ∷ []) v → Perhaps v
  said_yes : {v : List ℕ} → Coded 0x01 (0xFF ∷ []) v → Perhaps v

-- the bytes of an extension: a SEQUENCE of an object identifier, perhaps a BOOLEAN, and an OCTET STRING with the content c
pub data Framed (name c : List ℕ) : List ℕ → Type 0 where
  framed : {a b e v : List ℕ} → Coded 0x06 name a → Perhaps b → Coded 0x04 c e → Coded 0x30 (a ++ (b ++ e)) v → Framed name c v

-- one extension: DiceTcbInfo or DiceUeid for the first time, or one under another identifier
pub data ExtensionOf (s : Extensions) : Extensions → List ℕ → Type 0 where
  info : {c : Claim} {fields x v : List ℕ} → s.info ≡ None → Writes c fields → 0 < length fields → Coded 0x30 fields x → Framed tcb_info x v
      → ExtensionOf s (record { info = Some c; instance = s.instance }) v
  instance : {b : Bytes 33} {c o x v : List ℕ} → s.instance ≡ None → Kept 33 7 b c → Coded 0x04 c o → Coded 0x30 o x → Framed ueid x v
      → ExtensionOf s (record { info = s.info; instance = Some b }) v
  other : {name c v : List ℕ} → extension_of name ≡ Other → Framed name c v → ExtensionOf s s v

-- the message m is a SEQUENCE of extensions that carry the claim c
pub data Carries : Claim → List ℕ → Type 0 where
  carries : {c : Claim} {b : Option (Bytes 33)} {bs m : List ℕ} → Chain ExtensionOf no_extensions (record { info = Some c; instance = b }) bs
      → Coded 0x30 bs m → stands (on_instance c b) ≡ true → Carries (on_instance c b) m
