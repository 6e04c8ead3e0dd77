use Rattle.std.specs.Prelude.{ℕ, ◌-◌, Bool, cond, ◌&&◌, List, ◌++◌, length, take, replicate, Some, None, Option, ◌==◌, nat_le}
use Rattle.std.specs.Str.{bytes_eq}
use Rattle.claims.specs.declared.kinds.Bytes.{Bytes}

-- bytes as they are kept: their number, and their places with zeros after them
abbrev pub bounded : (N : ℕ) → List ℕ → Bytes N
bounded N xs = record { len = length xs; places = xs ++ replicate (N - length xs) 0 }

-- at least `least` bytes and at most N are kept
abbrev pub kept_from : (N : ℕ) → ℕ → List ℕ → Option (Bytes N)
kept_from N least xs = cond (nat_le least (length xs) && nat_le (length xs) N) (Some (bounded N xs)) None

-- the bytes that are kept
abbrev pub content : {N : ℕ} → Bytes N → List ℕ
content s = take s.len s.places

-- as many bytes, and the same in every place
abbrev pub same : {N : ℕ} → Bytes N → Bytes N → Bool
same a b = a.len == b.len && bytes_eq a.places b.places
