use Rattle.std.proofs.Common.{◌≡◌, ℕ, ◌+◌, ◌*◌, ◌/◌, ◌%◌, ◌<◌, ◌≤◌, List, ◌∷◌, ◌++◌, length, take, Some, ap, ◌∙◌, arith}
use Rattle.std.proofs.lemmas.List.{length-append, take_at}
use Rattle.std.proofs.lemmas.Bool.{and_from, cond-true, lt-ltb, le-leb}
use Rattle.parts.specs.Numbers.{big}
use Rattle.cbor.specs.Heads.{long_head, by_info, head_of}
use Rattle.cbor.specs.Encodes.{one, two, four, eight, Headed, inside, behind}

-- what is written is read

-- a head, by how its first byte ends
by_info_lem : (major info : ℕ) (xs : List ℕ) → info < 32 → (head_of ((major * 32 + info) ∷ xs) ≡ by_info info ((major * 32 + info) ∷ xs)) × ((major * 32 + info) / 32 ≡ major)
by_info_lem major info xs h =
    let m : List ℕ = (major * 32 + info) ∷ xs in
    let r : (major * 32 + info) % 32 ≡ info = omega arith in
    (cond-true _ _ _ (lt-ltb 0 (length m) (omega arith)) ∙ ap (λ (i : ℕ). by_info i m) r, omega arith)

long_forth : (major n x w least : ℕ) (ds rest : List ℕ) → x / 32 ≡ major → length ds ≡ w → big ds ≡ n → least ≤ n
    → long_head w least (x ∷ (ds ++ rest)) ≡ Some (record { major = major; argument = n; size = length (x ∷ ds) })
long_forth major n x w least ds rest first long value large =
    let t : take w (ds ++ rest) ≡ ds = take_at ds rest w long in
    let b : big (take w (ds ++ rest)) ≡ n = ap big t ∙ value in
    let s : 1 + w ≡ length (x ∷ ds) = omega arith in
    cond-true _ _ _ (and_from _ _ (le-leb (1 + w) (length (x ∷ (ds ++ rest))) (omega (arith, length-append ds rest))) (le-leb least (big (take w (ds ++ rest))) (omega arith)))
    ∙ rw (b, first, s)

pub head_written : (major n : ℕ) (h rest : List ℕ) → Headed major n h → head_of (h ++ rest) ≡ Some (record { major = major; argument = n; size = length h })
head_written major n _ rest (inside l) = let p = by_info_lem major n rest (omega arith) in p.0 ∙ rw (lt-ltb n 24 l, p.1)
head_written major n _ rest (behind ds one l b k) = let p = by_info_lem major 24 (ds ++ rest) (omega arith) in p.0 ∙ long_forth major n _ 1 24 ds rest p.1 l b k
head_written major n _ rest (behind ds two l b k) = let p = by_info_lem major 25 (ds ++ rest) (omega arith) in p.0 ∙ long_forth major n _ 2 256 ds rest p.1 l b k
head_written major n _ rest (behind ds four l b k) = let p = by_info_lem major 26 (ds ++ rest) (omega arith) in p.0 ∙ long_forth major n _ 4 65536 ds rest p.1 l b k
head_written major n _ rest (behind ds eight l b k) = let p = by_info_lem major 27 (ds ++ rest) (omega arith) in p.0 ∙ long_forth major n _ 8 4294967296 ds rest p.1 l b k
