use Rattle.std.specs.Prelude.{ℕ, ◌+◌, Bool, true, false, cond, ◌||◌, List, [], ◌∷◌, ◌++◌, is_some, Some, None, codes, decimal, Option}
use Rattle.std.specs.Option.{option_map}
use Rattle.claims.specs.Bytes.{content}
use Rattle.claims.specs.declared.kinds.Bytes.{Bytes}
use Rattle.claims.specs.declared.kinds.Digests.{Digests}
use Rattle.claims.specs.declared.kinds.Environment.{Environment}
use Rattle.claims.specs.declared.kinds.Values.{Values}
use Rattle.claims.specs.declared.kinds.Claim.{Claim}
use Rattle.script.specs.Hex.{hex_text}

-- a value under its label, where it is there
abbrev pub field_text : {T : Type 0} → (T → Option (List ℕ)) → List ℕ → Option T → Option (List ℕ)
field_text text label None = Some []
field_text text label (Some x) = option_map (λ t. label ++ t) (text x)

-- a byte string under its label
abbrev pub bytes_field : {N : ℕ} → List ℕ → Option (Bytes N) → List ℕ
bytes_field label None = []
bytes_field label (Some s) = label ++ hex_text (content s)

-- a number under its label
abbrev pub number_field : List ℕ → Option ℕ → List ℕ
number_field label None = []
number_field label (Some n) = label ++ decimal n

-- the fields of an environment
abbrev pub environment_text : Environment → List ℕ
environment_text e =
    bytes_field (codes " class=") e.class
    ++ (bytes_field (codes " vendor=") e.vendor
    ++ (bytes_field (codes " model=") e.model
    ++ (number_field (codes " layer=") e.layer
    ++ (number_field (codes " index=") e.index
    ++ bytes_field (codes " instance=") e.instance))))

-- the digests, by the numbers of their algorithms
abbrev pub digests_text : Digests → List ℕ
digests_text d =
    bytes_field (codes " digest1=") d.sha256
    ++ (bytes_field (codes " digest7=") d.sha384
    ++ bytes_field (codes " digest8=") d.sha512)

-- `true` or `false`
abbrev pub truth : Bool → List ℕ
truth true = codes "true"
truth false = codes "false"

-- what stands before a flag: the label before the first, a comma before a later one
abbrev pub flag_lead : Bool → List ℕ
flag_lead later = cond later (codes ",") (codes " flags=")

-- a flag that is known, as `3:false`
abbrev pub flag_text : Bool → ℕ → Option Bool → List ℕ
flag_text later n None = []
flag_text later n (Some b) = flag_lead later ++ (decimal n ++ (codes ":" ++ truth b))

-- the known flags among those from n on
abbrev pub flags_from : Bool → ℕ → List (Option Bool) → List ℕ
flags_from later n [] = []
flags_from later n (f ∷ fs) = flag_text later n f ++ flags_from (later || is_some f) (n + 1) fs

-- the values
abbrev pub values_text : Values → List ℕ
values_text v =
    bytes_field (codes " version=") v.version
    ++ (number_field (codes " svn=") v.svn
    ++ (digests_text v.digests
    ++ (flags_from false 0 v.flags.states
    ++ bytes_field (codes " raw=") v.raw)))

-- the fields of a claim that are there
abbrev pub claim_text : Claim → List ℕ
claim_text c = environment_text c.environment ++ (number_field (codes " key=") c.key ++ values_text c.values)
