use Rattle.std.proofs.Common.{◌≡◌, ℕ, Bool, true, false, eqb, IfSome, Some, None, Decides, Option, sym, refl, ap, ◌∙◌, arith}
use Rattle.std.specs.Bool.{beq}
use Rattle.std.specs.Option.{option_map}
use Rattle.std.proofs.lemmas.Slice.Eq.{bytes_eq-Decides, slice_eq-Decides}
use Rattle.std.proofs.lemmas.Bool.{and_parts, false≢true}
use Rattle.std.proofs.lemmas.Bool.Decides.{Decides-and, Decides-eqb, Decides-like}
use Rattle.claims.specs.Bytes.{bounded, content, same}
use Rattle.claims.specs.Limits.{Holds, Within}
use Rattle.claims.specs.Same.{same_option, same_flags, same_digests, same_environment, same_values, same_claim, Meaning, meaning}
use Rattle.claims.specs.declared.kinds.Bytes.{Bytes}
use Rattle.claims.specs.declared.kinds.Digests.{Digests}
use Rattle.claims.specs.declared.kinds.Environment.{Environment}
use Rattle.claims.specs.declared.kinds.Values.{Values}
use Rattle.claims.specs.declared.kinds.Claim.{Claim}

-- a test tells whether two values are equal
abbrev pub Tells : {A : Type 0} → (A → A → Bool) → Type 0
Tells {A} f = (x y : A) → Decides (f x y) (x ≡ y)

-- an optional field: what tells its values tells the field
pub option_tells : {A : Type 0} (f : A → A → Bool) → Tells f → Tells (same_option f)
option_tells f t None None = ((λ _. refl), λ _. refl)
option_tells f t None (Some y) = ((λ e. absurd (false≢true e)), λ e. absurd (let z : ◌≡◌ {A = ℕ} 0 1 = cc in omega arith))
option_tells f t (Some x) None = ((λ e. absurd (false≢true e)), λ e. absurd (let z : ◌≡◌ {A = ℕ} 0 1 = cc in omega arith))
option_tells f t (Some x) (Some y) = ((λ e. ap (λ v. Some v) ((t x y).0 e)), λ e. let z : x ≡ y = cc in (t x y).1 z)

state_tells : Tells beq
state_tells true true = ((λ _. refl), λ _. refl)
state_tells true false = ((λ e. sym e), λ e. sym e)
state_tells false true = ((λ e. e), λ e. e)
state_tells false false = ((λ _. refl), λ _. refl)

pub flags_tells : Tells same_flags
flags_tells fs gs = slice_eq-Decides (option_tells beq state_tells) fs gs (same_flags fs gs) refl

pub bytes_tells : (N : ℕ) → Tells (same {N = N})
bytes_tells N a b =
    Decides-like _
    (λ p.
    let l = p.0 in
    let q = p.1 in
    let r : ◌≡◌ {A = Bytes N} (record { len = a.len; places = a.places }) (record { len = b.len; places = b.places }) = cc in
    r)
    (λ e. (ap (λ (s : Bytes N). s.len) e, ap (λ (s : Bytes N). s.places) e))
    (Decides-and _ _ (Decides-eqb a.len b.len) (bytes_eq-Decides a.places b.places))

-- sets with equal digests are equal
digests_from : (a b : Digests) → a.sha256 ≡ b.sha256 → a.sha384 ≡ b.sha384 → a.sha512 ≡ b.sha512 → a ≡ b
digests_from a b p1 p2 p3 =
    let r : ◌≡◌ {A = Digests} (record { sha256 = a.sha256; sha384 = a.sha384; sha512 = a.sha512 })
    (record { sha256 = b.sha256; sha384 = b.sha384; sha512 = b.sha512 }) = cc in
    r

pub digests_tells : Tells same_digests
digests_tells a b =
    Decides-like _
    (λ p. digests_from a b p.0.0 p.0.1 p.1)
    (λ e. ((ap (λ (s : Digests). s.sha256) e, ap (λ (s : Digests). s.sha384) e), ap (λ (s : Digests). s.sha512) e))
    (Decides-and _ _
    (Decides-and _ _ (option_tells same (bytes_tells 32) a.sha256 b.sha256) (option_tells same (bytes_tells 48) a.sha384 b.sha384))
    (option_tells same (bytes_tells 64) a.sha512 b.sha512))

-- environments with equal fields are equal
environment_from : (a b : Environment) → a.class ≡ b.class → a.vendor ≡ b.vendor → a.model ≡ b.model → a.layer ≡ b.layer → a.index ≡ b.index
    → a.instance ≡ b.instance → a ≡ b
environment_from a b p1 p2 p3 p4 p5 p6 =
    let r : ◌≡◌ {A = Environment}
    (record { class = a.class; vendor = a.vendor; model = a.model; layer = a.layer; index = a.index; instance = a.instance })
    (record { class = b.class; vendor = b.vendor; model = b.model; layer = b.layer; index = b.index; instance = b.instance }) = cc in
    r

pub environment_tells : Tells same_environment
environment_tells a b =
    Decides-like _
    (λ p. environment_from a b p.0.0.0.0.0 p.0.0.0.0.1 p.0.0.0.1 p.0.0.1 p.0.1 p.1)
    (λ e. (
      (
        (
          ((ap (λ (s : Environment). s.class) e, ap (λ (s : Environment). s.vendor) e), ap (λ (s : Environment). s.model) e),
          ap (λ (s : Environment). s.layer) e,
        ),
        ap (λ (s : Environment). s.index) e,
      ),
      ap (λ (s : Environment). s.instance) e,
    ))
    (Decides-and _ _
    (Decides-and _ _
    (Decides-and _ _
    (Decides-and _ _
    (Decides-and _ _ (option_tells same (bytes_tells 32) a.class b.class) (option_tells same (bytes_tells 32) a.vendor b.vendor))
    (option_tells same (bytes_tells 32) a.model b.model))
    (option_tells eqb Decides-eqb a.layer b.layer))
    (option_tells eqb Decides-eqb a.index b.index))
    (option_tells same (bytes_tells 33) a.instance b.instance))

-- values with equal fields are equal
values_from : (a b : Values) → a.version ≡ b.version → a.svn ≡ b.svn → a.digests ≡ b.digests → a.flags.states ≡ b.flags.states → a.raw ≡ b.raw → a ≡ b
values_from a b p1 p2 p3 p4 p5 =
    let r : ◌≡◌ {A = Values}
    (record { version = a.version; svn = a.svn; digests = a.digests; flags = record { states = a.flags.states }; raw = a.raw })
    (record { version = b.version; svn = b.svn; digests = b.digests; flags = record { states = b.flags.states }; raw = b.raw }) = cc in
    r

pub values_tells : Tells same_values
values_tells a b =
    Decides-like _
    (λ p. values_from a b p.0.0.0.0 p.0.0.0.1 p.0.0.1 p.0.1 p.1)
    (λ e. (
      (
        ((ap (λ (s : Values). s.version) e, ap (λ (s : Values). s.svn) e), ap (λ (s : Values). s.digests) e),
        ap (λ (s : Values). s.flags.states) e,
      ),
      ap (λ (s : Values). s.raw) e,
    ))
    (Decides-and _ _
    (Decides-and _ _
    (Decides-and _ _
    (Decides-and _ _ (option_tells same (bytes_tells 32) a.version b.version) (option_tells eqb Decides-eqb a.svn b.svn))
    (digests_tells a.digests b.digests))
    (flags_tells a.flags.states b.flags.states))
    (option_tells same (bytes_tells 64) a.raw b.raw))

claim_from : (a b : Claim) → a.environment ≡ b.environment → a.key ≡ b.key → a.values ≡ b.values → a ≡ b
claim_from a b p1 p2 p3 =
    let r : ◌≡◌ {A = Claim} (record { environment = a.environment; key = a.key; values = a.values })
    (record { environment = b.environment; key = b.key; values = b.values }) = cc in
    r

-- claims are the same exactly when all their places are equal
pub claim_tells : Tells same_claim
claim_tells a b =
    Decides-like _
    (λ p. claim_from a b p.0.0 p.0.1 p.1)
    (λ e. ((ap (λ (s : Claim). s.environment) e, ap (λ (s : Claim). s.key) e), ap (λ (s : Claim). s.values) e))
    (Decides-and _ _
    (Decides-and _ _ (environment_tells a.environment b.environment) (option_tells eqb Decides-eqb a.key b.key))
    (values_tells a.values b.values))

-- what tells equality is reflexive, symmetric and transitive
pub tells_reflexive : {A : Type 0} (f : A → A → Bool) → Tells f → (a : A) → f a a ≡ true
tells_reflexive f t a = (t a a).1 refl

pub tells_symmetric : {A : Type 0} (f : A → A → Bool) → Tells f → (a b : A) → f a b ≡ true → f b a ≡ true
tells_symmetric f t a b e = (t b a).1 (sym ((t a b).0 e))

pub tells_transitive : {A : Type 0} (f : A → A → Bool) → Tells f → (a b c : A) → f a b ≡ true → f b c ≡ true → f a c ≡ true
tells_transitive f t a b c e g = (t a c).1 ((t a b).0 e ∙ (t b c).0 g)

-- bytes within their limits are in the form of their content
bytes_form : (N least : ℕ) (s : Bytes N) → Holds least s → s ≡ bounded N (content s)
bytes_form N least s h = (bytes_tells N s (bounded N (content s))).0 (and_parts _ _ h).1

-- an optional field within its limits is given by its content
option_back : (N least : ℕ) (a b : Option (Bytes N)) → IfSome a (Holds least) → IfSome b (Holds least) → option_map content a ≡ option_map content b → a ≡ b
option_back N least None None p q e = refl
option_back N least None (Some y) p q e = absurd (let z : ◌≡◌ {A = ℕ} 0 1 = cc in omega arith)
option_back N least (Some x) None p q e = absurd (let z : ◌≡◌ {A = ℕ} 0 1 = cc in omega arith)
option_back N least (Some x) (Some y) p q e =
    let z : content x ≡ content y = cc in
    ap (λ (v : Bytes N). Some v) (bytes_form N least x p ∙ ap (bounded N) z ∙ sym (bytes_form N least y q))

-- claims within their limits are given by their meaning
meaning_back : (a b : Claim) → Within a → Within b → meaning a ≡ meaning b → a ≡ b
meaning_back a b p q e =
    claim_from a b
    (environment_from a.environment b.environment
    (option_back 32 1 _ _ p.environment.class q.environment.class (ap (λ (m : Meaning). m.class) e))
    (option_back 32 1 _ _ p.environment.vendor q.environment.vendor (ap (λ (m : Meaning). m.vendor) e))
    (option_back 32 1 _ _ p.environment.model q.environment.model (ap (λ (m : Meaning). m.model) e))
    (ap (λ (m : Meaning). m.layer) e)
    (ap (λ (m : Meaning). m.index) e)
    (option_back 33 7 _ _ p.environment.instance q.environment.instance (ap (λ (m : Meaning). m.instance) e)))
    (ap (λ (m : Meaning). m.key) e)
    (values_from a.values b.values
    (option_back 32 1 _ _ p.values.version q.values.version (ap (λ (m : Meaning). m.version) e))
    (ap (λ (m : Meaning). m.svn) e)
    (digests_from a.values.digests b.values.digests
    (option_back 32 32 _ _ p.values.digests.sha256 q.values.digests.sha256 (ap (λ (m : Meaning). m.sha256) e))
    (option_back 48 48 _ _ p.values.digests.sha384 q.values.digests.sha384 (ap (λ (m : Meaning). m.sha384) e))
    (option_back 64 64 _ _ p.values.digests.sha512 q.values.digests.sha512 (ap (λ (m : Meaning). m.sha512) e)))
    (ap (λ (m : Meaning). m.flags) e)
    (option_back 64 1 _ _ p.values.raw q.values.raw (ap (λ (m : Meaning). m.raw) e)))

pub meaning_decides : (a b : Claim) → Within a → Within b → Decides (same_claim a b) (meaning a ≡ meaning b)
meaning_decides a b p q = ((λ e. ap meaning ((claim_tells a b).0 e)), λ e. (claim_tells a b).1 (meaning_back a b p q e))
