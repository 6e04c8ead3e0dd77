use Rattle.std.proofs.Common.{◌≡◌, ℕ, zero, suc, ◌+◌, ◌≤◌, min, Bool, true, false, cond, eqb, List, [], ◌∷◌, ◌++◌, length, drop, Some, None, Ok, Err, Option, sym, refl, ap, ◌∙◌, append_assoc, arith}
use Rattle.std.proofs.lemmas.List.{append-nil, length_push}
use Rattle.std.proofs.lemmas.Bool.Decides.{nat_tests}
use Rattle.refusals.specs.Reading.{Outcome, onward, keeps}
use Rattle.claims.specs.declared.kinds.Claim.{Claim}
use Rattle.evidence.specs.Readings.{Reading}
use Rattle.parts.specs.Holders.{elements, elements_in}
use Rattle.parts.specs.Parts.{Piece, after, whole_of}
use Rattle.parts.specs.Picks.{picked, noted}
use Rattle.parts.proofs.Noted.{picked_more}
use Rattle.parts.specs.declared.kinds.Pick.{Pick}
use Rattle.parts.specs.declared.kinds.Read.{Read}
use Rattle.spdm.specs.declared.kinds.Setup.{Setup}
use Rattle.spdm.specs.declared.kinds.Entry.{Entry}
use Rattle.spdm.specs.declared.kinds.Row.{Row}
use Rattle.spdm.specs.Rows.{entry_of, row_of, reading, block_at}
use Rattle.spdm.specs.Told.{entry_fits}

-- claims that come by one after the other
abbrev pub noted_all : ℕ → Pick Claim → List Claim → Pick Claim
noted_all w p [] = p
noted_all w p (c ∷ cs) = noted_all w (noted w p c) cs

picked_all : (w : ℕ) (done cs : List Claim) → length done + length cs ≤ 18446744073709551615 → noted_all w (picked w done) cs ≡ picked w (done ++ cs)
picked_all w done [] few = ap (picked w) (sym (append-nil done))
picked_all w done (c ∷ cs) few =
    ap (λ p. noted_all w p cs) (picked_more w done c (omega arith))
    ∙ picked_all w (done ++ c ∷ []) cs (omega (arith, length_push done c))
    ∙ ap (picked w) (append_assoc done (c ∷ []) cs)

-- a row has no more claims than steps
abbrev Few : ℕ → Reading → Type 0
Few n (Ok cs) = length cs ≤ n
Few n (Err e) = Unit {0}

few_more : (n : ℕ) (c : Claim) (r : Reading) → Few n r → Few (suc n) (keeps r (λ cs. c ∷ cs))
few_more n c (Ok cs) h = omega arith
few_more n c (Err e) h = tt

few_onward : (n : ℕ) (r : Outcome Entry) (f : Entry → Reading) → ((e : Entry) → Few n (f e)) → Few n (onward r f)
few_onward n (Ok e) f h = h e
few_onward n (Err e) f h = tt

few_cond : (n : ℕ) (b : Bool) (r : Reading) → Few n r → Few n (cond b (Ok []) r)
few_cond n true r h = omega arith
few_cond n false r h = h

row_few : (s : Setup) (n : ℕ) (last : Option ℕ) (at : ℕ) (m : List ℕ) → Few n (row_of s n last at m)
row_few s zero last at m = omega arith
row_few s (suc n) last at m =
    few_cond (suc n) (eqb (length m) 0) _
    (few_onward (suc n) (entry_of s last at m) _ (λ e. few_more n e.claim _ (row_few s n (Some e.index) (at + e.size) (drop e.size m))))

module _ (s : Setup) (w : ℕ) where
  abbrev row : Option ℕ → Pick Claim → Row
  row last pick = record { setup = s; wanted = w; last = last; pick = pick }

  abbrev element : Pick Claim → Entry → Read Row
  element pick e = record { value = row (Some e.index) (noted w pick e.claim); size = e.size }

  front : (c : Claim) (p : Pick Claim) (r : Reading) → keeps r (noted_all w (noted w p c)) ≡ keeps (keeps r (λ cs. c ∷ cs)) (noted_all w p)
  front c p (Ok cs) = refl
  front c p (Err e) = refl

  step : (n : ℕ) (pick : Pick Claim) (p : Piece) (o : Outcome Entry) → ((e : Entry) → o ≡ Ok e → e.size ≤ length p.bytes)
      → ((l : Option ℕ) (k : Pick Claim) (q : Piece) → keeps (elements block_at n (row l k) q) (λ r. r.pick) ≡ keeps (row_of s n l q.at q.bytes) (noted_all w k))
      → keeps (onward (keeps o (element pick)) (λ r. elements block_at n r.value (after r.size p))) (λ r. r.pick)
      ≡ keeps (onward o (λ e. keeps (row_of s n (Some e.index) (p.at + e.size) (drop e.size p.bytes)) (λ cs. e.claim ∷ cs))) (noted_all w pick)
  step n pick p (Err x) fits more = refl
  step n pick p (Ok e) fits more =
      let f = fits e refl in
      let i : p.at + min e.size (length p.bytes) ≡ p.at + e.size = omega arith in
      more (Some e.index) (noted w pick e.claim) (after e.size p)
      ∙ ap (λ j. keeps (row_of s n (Some e.index) j (drop e.size p.bytes)) (noted_all w (noted w pick e.claim))) i
      ∙ front e.claim pick (row_of s n (Some e.index) (p.at + e.size) (drop e.size p.bytes))

  either : (b : Bool) (last : Option ℕ) (pick : Pick Claim) (x : Outcome Row) (y : Reading)
      → (b ≡ false → keeps x (λ r. r.pick) ≡ keeps y (noted_all w pick))
      → keeps (cond b (Ok (row last pick)) x) (λ r. r.pick) ≡ keeps (cond b (Ok []) y) (noted_all w pick)
  either true last pick x y h = refl
  either false last pick x y h = h refl

  -- the elements of a row give what its claims give one after the other
  same : (n : ℕ) (last : Option ℕ) (pick : Pick Claim) (p : Piece)
      → keeps (elements block_at n (row last pick) p) (λ r. r.pick) ≡ keeps (row_of s n last p.at p.bytes) (noted_all w pick)
  same zero last pick p = refl
  same (suc n) last pick p =
      either (eqb (length p.bytes) 0) last pick _ _
      (λ b. step n pick p (entry_of s last p.at p.bytes) (entry_fits s last p.at p.bytes (grind (arith, nat_tests))) (same n))

  all_picked : (n : ℕ) (r : Reading) → n ≤ 18446744073709551615 → Few n r → keeps r (noted_all w (record { seen = 0; kept = None })) ≡ keeps r (picked w)
  all_picked n (Ok cs) h f = ap (λ p. Ok p) (picked_all w [] cs (omega arith))
  all_picked n (Err e) h f = refl

  -- what the elements of a message keep of its reading
  pub row_walked : (m : List ℕ) → length m ≤ 18446744073709551615
      → keeps (elements_in block_at (row None (record { seen = 0; kept = None })) (whole_of m)) (λ r. r.pick) ≡ keeps (reading s m) (picked w)
  row_walked m h =
      same (length m) None (record { seen = 0; kept = None }) (whole_of m)
      ∙ all_picked (length m) (reading s m) h (row_few s (length m) None 0 m)
