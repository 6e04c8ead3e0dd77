use Rattle.std.specs.Prelude.{◌≡◌, ℕ, ◌<◌, Bool, true, List, Some, None, nat_eq}
use Rattle.refusals.specs.Reading.{above}
use Rattle.authorities.specs.declared.kinds.Authorities.{Authorities}
use Rattle.claims.specs.Digests.{algorithm_of, no_digests, with_digest}
use Rattle.claims.specs.Environments.{no_environment, with_class, with_vendor, with_model, with_layer, with_index, with_instance}
use Rattle.claims.specs.Values.{no_flags, with_version, with_digests, with_flags, with_raw}
use Rattle.claims.specs.declared.kinds.Bytes.{Bytes}
use Rattle.claims.specs.declared.kinds.Digests.{Digests}
use Rattle.claims.specs.declared.kinds.Environment.{Environment}
use Rattle.claims.specs.declared.kinds.Flags.{Flags}
use Rattle.conditions.specs.Wanted.{no_wanted, with_key, with_listed, some_wanted}
use Rattle.conditions.specs.declared.kinds.Wanted.{Wanted}
use Rattle.cbor.specs.Encodes.{Headed, Number, Truth, String, Content, Tagged, ArrayOf, MapOf, Then, Made, Stored, Such}
use Rattle.measurements.specs.Digests.{fresh}
use Rattle.measurements.specs.Environments.{in_class, in_environment}
use Rattle.measurements.specs.Flags.{with_flag}
use Rattle.measurements.specs.Listed.{none_listed, listing}
use Rattle.measurements.specs.Measurements.{in_measurement}
use Rattle.measurements.specs.Svns.{most_svn}
use Rattle.measurements.specs.Values.{put, put_svn}
use Rattle.measurements.specs.declared.kinds.Allowed.{Allowed}
use Rattle.measurements.specs.declared.kinds.InAuthorities.{InAuthorities}
use Rattle.measurements.specs.declared.kinds.InClass.{InClass}
use Rattle.measurements.specs.declared.kinds.InDigests.{InDigests}
use Rattle.measurements.specs.declared.kinds.InEnvironment.{InEnvironment}
use Rattle.measurements.specs.declared.kinds.InFlags.{InFlags}
use Rattle.measurements.specs.declared.kinds.InMeasurement.{InMeasurement}
use Rattle.measurements.specs.declared.kinds.InValues.{InValues}
use Rattle.measurements.specs.declared.kinds.InVersion.{InVersion}
use Rattle.measurements.specs.declared.kinds.Svn.{Svn}
use Rattle.measurements.specs.declared.kinds.Svn.TheVariants.{Exact, Minimum}

-- Which bytes write which environment and which measurement. A map's entries take what was written before them, s, on to the next state.

-- a class map: 0 identifier, 1 vendor, 2 model, 3 layer, 4 index
pub data ClassField (s : InClass) : ℕ → InClass → List ℕ → Type 0 where
  identifier : {x : Bytes 32} {bs : List ℕ} → Tagged 560 (String 2 32 1) x bs → ClassField s 0 (in_class (with_class s.environment x)) bs
  vendor : {x : Bytes 32} {bs : List ℕ} → String 3 32 1 x bs → ClassField s 1 (in_class (with_vendor s.environment x)) bs
  model : {x : Bytes 32} {bs : List ℕ} → String 3 32 1 x bs → ClassField s 2 (in_class (with_model s.environment x)) bs
  layer : {n : ℕ} {bs : List ℕ} → Number 65535 n bs → ClassField s 3 (in_class (with_layer s.environment n)) bs
  index : {n : ℕ} {bs : List ℕ} → Number 65535 n bs → ClassField s 4 (in_class (with_index s.environment n)) bs

abbrev pub ClassOf : Environment → Environment → List ℕ → Type 0
ClassOf e = Stored (MapOf ClassField (in_class e)) (λ s. s.environment)

-- an environment map: 0 class map, 1 instance
pub data EnvironmentField (s : InEnvironment) : ℕ → InEnvironment → List ℕ → Type 0 where
  class : {e : Environment} {bs : List ℕ} → ClassOf s.environment e bs → EnvironmentField s 0 (in_environment e) bs
  instance : {x : Bytes 33} {bs : List ℕ} → Tagged 550 (String 2 33 7) x bs → EnvironmentField s 1 (in_environment (with_instance s.environment x)) bs

abbrev pub EnvironmentOf : Environment → List ℕ → Type 0
EnvironmentOf = Stored (MapOf EnvironmentField (in_environment no_environment)) (λ s. s.environment)

-- a version map: 0 the version
pub data VersionField (s : InVersion) : ℕ → InVersion → List ℕ → Type 0 where
  text : {x : Bytes 32} {bs : List ℕ} → String 3 32 1 x bs → VersionField s 0 (record { text = Some x }) bs

abbrev pub VersionOf : Bytes 32 → List ℕ → Type 0
VersionOf = Made (MapOf VersionField (record { text = None })) (λ s. s.text)

-- an svn: a number, bare or under tag 552; under tag 553, where that may stand, a minimum
pub data SvnOf (minimum : Bool) : Svn → List ℕ → Type 0 where
  bare : {n : ℕ} {bs : List ℕ} → Number most_svn n bs → SvnOf minimum (Exact n) bs
  exact : {n : ℕ} {bs : List ℕ} → Tagged 552 (Number most_svn) n bs → SvnOf minimum (Exact n) bs
  least : {n : ℕ} {bs : List ℕ} → minimum ≡ true → Tagged 553 (Number most_svn) n bs → SvnOf minimum (Minimum n) bs

-- [algorithm, bytes]: an algorithm that did not come before, and as many bytes as it makes
abbrev pub DigestPair : Digests → Digests → List ℕ → Type 0
DigestPair s = Then (Such (Headed 4) (λ n. nat_eq n 2)) (λ _. Then (Made (Headed 0) (λ n. fresh s (algorithm_of n))) (λ a. Made (Content 2) (with_digest s a)))

abbrev pub OneDigest : InDigests → InDigests → List ℕ → Type 0
OneDigest s = Stored (DigestPair s.digests) (λ t. record { digests = t })

abbrev pub DigestsOf : Digests → List ℕ → Type 0
DigestsOf = Stored (ArrayOf OneDigest (record { digests = no_digests })) (λ s. s.digests)

-- a map of flags: 0 to 9, each true or false
pub data FlagField (s : InFlags) (key : ℕ) : InFlags → List ℕ → Type 0 where
  flag : {b : Bool} {bs : List ℕ} → key < 10 → Truth b bs → FlagField s key (record { flags = with_flag s.flags key b }) bs

abbrev pub FlagsOf : Flags → List ℕ → Type 0
FlagsOf = Stored (MapOf FlagField (record { flags = no_flags })) (λ s. s.flags)

-- a map of values: 0 version, 1 svn, 2 digests, 3 flags, 4 raw value
pub data ValuesField (s : InValues) : ℕ → InValues → List ℕ → Type 0 where
  version : {x : Bytes 32} {bs : List ℕ} → VersionOf x bs → ValuesField s 0 (put s (λ v. with_version v x)) bs
  svn : {x : Svn} {bs : List ℕ} → SvnOf s.minimum x bs → ValuesField s 1 (put_svn s x) bs
  digests : {x : Digests} {bs : List ℕ} → DigestsOf x bs → ValuesField s 2 (put s (λ v. with_digests v x)) bs
  flags : {x : Flags} {bs : List ℕ} → FlagsOf x bs → ValuesField s 3 (put s (λ v. with_flags v x)) bs
  raw : {x : Bytes 64} {bs : List ℕ} → Tagged 560 (String 2 64 1) x bs → ValuesField s 4 (put s (λ v. with_raw v x)) bs

abbrev pub ValuesOf : Bool → Wanted → Wanted → List ℕ → Type 0
ValuesOf minimum w = Stored (MapOf ValuesField (record { minimum = minimum; wanted = w })) (λ s. s.wanted)

-- an array of authorities, 0 to 63, each above the one before it
pub data OneAuthority (s : InAuthorities) : InAuthorities → List ℕ → Type 0 where
  authority : {n : ℕ} {bs : List ℕ} → Headed 0 n bs → above s.last n ≡ true → n < 64 → OneAuthority s (listing s n) bs

abbrev pub AuthoritiesOf : Authorities → List ℕ → Type 0
AuthoritiesOf = Stored (ArrayOf OneAuthority none_listed) (λ s. s.listed)

-- a measurement map: 0 element key, 1 values, 2 authorities, where they may be listed
pub data MeasurementField (s : InMeasurement) : ℕ → InMeasurement → List ℕ → Type 0 where
  key : {n : ℕ} {bs : List ℕ} → Number 65535 n bs → MeasurementField s 0 (in_measurement s (with_key s.wanted n)) bs
  values : {w : Wanted} {bs : List ℕ} → ValuesOf s.allowed.minimum s.wanted w bs → MeasurementField s 1 (in_measurement s w) bs
  authorities : {x : Authorities} {bs : List ℕ} → s.allowed.authorities ≡ true → AuthoritiesOf x bs → MeasurementField s 2 (in_measurement s (with_listed s.wanted x)) bs

-- it must have values
abbrev pub MeasurementOf : Allowed → Wanted → List ℕ → Type 0
MeasurementOf allowed = Stored (Such (MapOf MeasurementField (record { allowed = allowed; wanted = no_wanted })) (λ s. some_wanted s.wanted)) (λ s. s.wanted)
