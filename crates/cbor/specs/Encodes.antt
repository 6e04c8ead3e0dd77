use Rattle.std.specs.Prelude.{◌≡◌, ℕ, suc, ◌+◌, ◌*◌, ◌<◌, ◌≤◌, Bool, true, false, List, [], ◌∷◌, ◌++◌, length, Some, None, Option}
use Rattle.refusals.specs.Reading.{above}
use Rattle.claims.specs.Bytes.{bounded}
use Rattle.claims.specs.declared.kinds.Bytes.{Bytes}
use Rattle.parts.specs.Numbers.{big}
use Rattle.cbor.specs.declared.kinds.Keyed.{Keyed}

-- a first byte that ends in `info` has so many bytes after it, for numbers from `least` on
pub data Width : ℕ → ℕ → ℕ → Type 0 where
  one : Width 24 1 24
  two : Width 25 2 256
  four : Width 26 4 65536
  eight : Width 27 8 4294967296

-- the bytes of a head: its number in the first byte, or behind it, high byte first
pub data Headed (major n : ℕ) : List ℕ → Type 0 where
  inside : n < 24 → Headed major n ((major * 32 + n) ∷ [])
  behind : {info w least : ℕ} (ds : List ℕ) → Width info w least → length ds ≡ w → big ds ≡ n → least ≤ n → Headed major n ((major * 32 + info) ∷ ds)

-- a number of at most `most`
pub data Number (most : ℕ) : ℕ → List ℕ → Type 0 where
  number : {n : ℕ} {h : List ℕ} → Headed 0 n h → n ≤ most → Number most n h

-- false and true
pub data Truth : Bool → List ℕ → Type 0 where
  no : Truth false (244 ∷ [])
  yes : Truth true (245 ∷ [])

-- a string of `least` to N bytes, of a major type, as it is kept
pub data String (major N least : ℕ) : Bytes N → List ℕ → Type 0 where
  string : {h : List ℕ} (c : List ℕ) → Headed major (length c) h → least ≤ length c → length c ≤ N → String major N least (bounded N c) (h ++ c)

-- the content of a string of a major type
pub data Content (major : ℕ) : List ℕ → List ℕ → Type 0 where
  content : {h c : List ℕ} → Headed major (length c) h → Content major c (h ++ c)

-- a tag around something
pub data Tagged {A : Type 0} (tag : ℕ) (Inner : A → List ℕ → Type 0) : A → List ℕ → Type 0 where
  tagged : {x : A} {h bs : List ℕ} → Headed 6 tag h → Inner x bs → Tagged tag Inner x (h ++ bs)

-- so many elements, each of which takes what was read before it, s, on to t
pub data Counted {S : Type 0} (One : S → S → List ℕ → Type 0) : ℕ → S → S → List ℕ → Type 0 where
  done : {s : S} → Counted One 0 s s []
  more : {n : ℕ} {s t u : S} {v bs : List ℕ} → One s t v → Counted One n t u bs → Counted One (suc n) s u (v ++ bs)

-- an array that is not empty
pub data ArrayOf {S : Type 0} (One : S → S → List ℕ → Type 0) (s : S) : S → List ℕ → Type 0 where
  arrayed : {n : ℕ} {u : S} {h bs : List ℕ} → Headed 4 n h → 0 < n → Counted One n s u bs → ArrayOf One s u (h ++ bs)

-- a key above the one before it, and its value, which takes the fields read before it on to t
pub data Entry {F : Type 0} (Field : F → ℕ → F → List ℕ → Type 0) (s : Keyed F) : Keyed F → List ℕ → Type 0 where
  entry : {key : ℕ} {t : F} {h v : List ℕ} → Headed 0 key h → above s.last key ≡ true → Field s.fields key t v
      → Entry Field s (record { last = Some key; fields = t }) (h ++ v)

-- a map that is not empty
pub data MapOf {F : Type 0} (Field : F → ℕ → F → List ℕ → Type 0) (s : F) : F → List ℕ → Type 0 where
  mapped : {n : ℕ} {u : Keyed F} {h bs : List ℕ} → Headed 5 n h → 0 < n → Counted (Entry Field) n (record { last = None; fields = s }) u bs
      → MapOf Field s u.fields (h ++ bs)

-- one thing, and behind it another, which may depend on it
pub data Then {A B : Type 0} (First : A → List ℕ → Type 0) (Second : A → B → List ℕ → Type 0) : B → List ℕ → Type 0 where
  both : {x : A} {y : B} {a b : List ℕ} → First x a → Second x y b → Then First Second y (a ++ b)

-- what was written, put to use where it can be
pub data Made {A B : Type 0} (Kind : A → List ℕ → Type 0) (f : A → Option B) : B → List ℕ → Type 0 where
  made : {x : A} {y : B} {bs : List ℕ} → Kind x bs → f x ≡ Some y → Made Kind f y bs

-- what was written, put to use
pub data Stored {A B : Type 0} (Kind : A → List ℕ → Type 0) (f : A → B) : B → List ℕ → Type 0 where
  stored : {x : A} {bs : List ℕ} → Kind x bs → Stored Kind f (f x) bs

-- what is written passes a test
abbrev pub Such : {A : Type 0} → (A → List ℕ → Type 0) → (A → Bool) → A → List ℕ → Type 0
Such Kind test x bs = Kind x bs × (test x ≡ true)
