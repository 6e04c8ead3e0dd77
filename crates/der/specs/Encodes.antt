use Rattle.std.specs.Prelude.{◌≡◌, ℕ, ◌+◌, ◌%◌, ◌<◌, ◌≤◌, true, List, [], ◌∷◌, ◌++◌, length, slice_index}
use Rattle.parts.specs.Numbers.{big}
use Rattle.der.specs.Contents.{shortest}

-- the bytes of a length: itself, or behind a byte that says in how many, high byte first, none to spare
pub data Sized (n : ℕ) : List ℕ → Type 0 where
  inside : n < 128 → Sized n (n ∷ [])
  after : (ds : List ℕ) → 1 ≤ length ds → length ds ≤ 8 → 1 ≤ slice_index ds 0 → big ds ≡ n → 128 ≤ n → Sized n ((128 + length ds) ∷ ds)

-- an item: a tag of one byte, the length of its content, its content
pub data Coded (tag : ℕ) (c : List ℕ) : List ℕ → Type 0 where
  coded : {h : List ℕ} → tag % 32 < 31 → Sized (length c) h → Coded tag c (tag ∷ (h ++ c))

-- elements one after the other, each of which takes what was read before it, s, on to t
pub data Chain {S : Type 0} (One : S → S → List ℕ → Type 0) : S → S → List ℕ → Type 0 where
  done : {s : S} → Chain One s s []
  more : {s t u : S} {v bs : List ℕ} → One s t v → Chain One t u bs → Chain One s u (v ++ bs)

-- the content of an INTEGER of 0 to `most`: shortest, its first bit clear
pub data Number (most : ℕ) : ℕ → List ℕ → Type 0 where
  number : {c : List ℕ} → shortest c ≡ true → slice_index c 0 < 128 → big c ≤ most → Number most (big c) c
