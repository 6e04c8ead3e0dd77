use Rattle.std.specs.Prelude.{◌≡◌, ℕ, zero, suc, ◌+◌, ◌-◌, ◌<◌, ◌≤◌, cond, List, [], ◌∷◌, ◌++◌, length, drop, Some, None, Ok, Err, Option, ◌==◌, refl}
use Rattle.std.proofs.Common.{min, false, true, sym, ap, subst, ◌∙◌, append_assoc, arith}
use Rattle.std.proofs.lemmas.List.{append-nil, drop-drop, length-drop, length_push}
use Rattle.std.proofs.lemmas.Bool.{cond-true, cond-false, eq-eqb, ne_eqb}
use Rattle.refusals.specs.declared.Refusal.{Refusal}
use Rattle.refusals.specs.Reading.{onward, keeps}
use Rattle.claims.specs.declared.kinds.Claim.{Claim}
use Rattle.evidence.specs.Readings.{Reading}
use Rattle.parts.specs.Parts.{Piece, after, none, whole_of}
use Rattle.parts.specs.Picks.{picked}
use Rattle.parts.proofs.Noted.{nth_push}
use Rattle.parts.proofs.Steps.{none_true, none_false}
use Rattle.parts.specs.declared.kinds.Pick.{Pick}
use Rattle.spdm.specs.declared.kinds.Setup.{Setup}
use Rattle.spdm.specs.declared.kinds.Entry.{Entry}
use Rattle.spdm.specs.Rows.{entry_of, row_of, reading}
use Rattle.spdm.specs.Walks.{row_more, row_none}

-- How far a reading of blocks one after the other has come: the loop of `walk` keeps what stands here.

-- one claim more, counted with no bound
abbrev pub noted : ℕ → Pick Claim → Claim → Pick Claim
noted wanted p c = record { seen = p.seen + 1; kept = cond (p.seen == wanted) (Some c) p.kept }

-- the same, step by step: the one that is wanted is kept, and then it is counted
pub noted_now : (wanted : ℕ) (p q : Pick Claim) (c : Claim) → p.seen ≡ wanted → q ≡ record { seen = p.seen; kept = Some c }
    → record { seen = q.seen + 1; kept = q.kept } ≡ noted wanted p c
noted_now wanted p q c here e =
    ap (λ (o : Pick Claim). record { seen = o.seen + 1; kept = o.kept }) e
    ∙ ap (λ (o : Option Claim). record { seen = p.seen + 1; kept = o }) (sym (cond-true _ _ _ (eq-eqb p.seen wanted here)))

pub noted_past : (wanted : ℕ) (p q : Pick Claim) (c : Claim) → (p.seen ≡ wanted → ⊥) → q ≡ p
    → record { seen = q.seen + 1; kept = q.kept } ≡ noted wanted p c
noted_past wanted p q c other e =
    ap (λ (o : Pick Claim). record { seen = o.seen + 1; kept = o.kept }) e
    ∙ ap (λ (o : Option Claim). record { seen = p.seen + 1; kept = o }) (sym (cond-false _ _ _ (ne_eqb p.seen wanted other)))

pub picked_more : (wanted : ℕ) (cs : List Claim) (c : Claim) → noted wanted (picked wanted cs) c ≡ picked wanted (cs ++ c ∷ [])
picked_more wanted cs c = rw (length_push cs c, nth_push cs c wanted)

-- the claims before a row, put in front of its own
pub keeps_more : (r : Reading) (done : List Claim) (c : Claim)
    → keeps (keeps r (λ cs. c ∷ cs)) (λ cs. done ++ cs) ≡ keeps r (λ cs. (done ++ c ∷ []) ++ cs)
keeps_more (Ok cs) done c = ap (λ (x : List Claim). Ok x) (sym (append_assoc done (c ∷ []) cs))
keeps_more (Err e) done c = refl

keeps_all : (r : Reading) → keeps r (λ cs. cs) ≡ r
keeps_all (Ok cs) = refl
keeps_all (Err e) = refl

-- how far a walk has come: `done` was read, and the blocks from `at` on give the rest, with steps enough
pub record Walked (s : Setup) (m : List ℕ) (wanted at : ℕ) (last : Option ℕ) (p : Pick Claim) : Type 0 where
  pub done : List Claim
  pub steps : ℕ
  pub enough : length m ≤ at + steps
  pub within : at ≤ length m
  pub few : length done ≤ at
  pub kept : p ≡ picked wanted done
  pub rest : reading s m ≡ keeps (row_of s steps last at (drop at m)) (λ cs. done ++ cs)

pub walk_begins : (s : Setup) (m : List ℕ) (wanted : ℕ) → Walked s m wanted 0 None (record { seen = 0; kept = None })
walk_begins s m wanted = record {
  done = [];
  steps = length m;
  enough = omega arith;
  within = omega arith;
  few = omega arith;
  kept = refl;
  rest = sym (keeps_all (reading s m));
}

module _ (s : Setup) (m : List ℕ) (wanted at : ℕ) (last : Option ℕ) (p : Pick Claim) (inside : at < length m) where
  here : 0 < length (drop at m)
  here = rw length-drop (omega arith)

  -- what is left to read, by its first entry
  first : (steps : ℕ) → length m ≤ at + steps
      → (k : ℕ) × (length m ≤ at + 1 + k) × (row_of s steps last at (drop at m) ≡ onward (entry_of s last at (drop at m)) (λ e. keeps (row_of s k (Some e.index) (at + e.size) (drop e.size (drop at m))) (λ cs. e.claim ∷ cs)))
  first zero h = absurd (omega arith)
  first (suc k) h = (k, omega arith, row_more s k last at (drop at m) here)

  pub walk_goes : (e : Entry) (q : Pick Claim) → q ≡ noted wanted p e.claim → entry_of s last at (drop at m) ≡ Ok e → 7 ≤ e.size → e.size ≤ length (drop at m)
      → Walked s m wanted at last p → Walked s m wanted (at + e.size) (Some e.index) q
  walk_goes e q note found large fits w =
      let f = first w.steps w.enough in
      let fits₁ : e.size ≤ length m - at = rw length-drop at fits in
      record {
        done = w.done ++ e.claim ∷ [];
        steps = f.0;
        enough = omega (arith, f.1);
        within = omega arith;
        few = rw (length_push w.done e.claim) (omega (arith, w.few));
        kept = note ∙ ap (λ (o : Pick Claim). noted wanted o e.claim) w.kept ∙ picked_more wanted w.done e.claim;
        rest = w.rest
            ∙ ap (λ (r : Reading). keeps r (λ cs. w.done ++ cs)) (f.2 ∙ rw (found, drop-drop e.size at m))
            ∙ keeps_more (row_of s f.0 (Some e.index) (at + e.size) (drop (at + e.size) m)) w.done e.claim;
      }

  pub walk_stops : (e : Refusal) → entry_of s last at (drop at m) ≡ Err e → Walked s m wanted at last p
      → keeps (reading s m) (picked wanted) ≡ Err e
  walk_stops e found w =
      let f = first w.steps w.enough in
      let stopped : row_of s w.steps last at (drop at m) ≡ Err e = f.2 ∙ rw found in
      let whole : reading s m ≡ Err e = w.rest ∙ rw stopped in
      rw whole

pub walk_ends : (s : Setup) (m : List ℕ) (wanted at : ℕ) (last : Option ℕ) (p : Pick Claim) → length m ≤ at → Walked s m wanted at last p
    → keeps (reading s m) (picked wanted) ≡ Ok p
walk_ends s m wanted at last p past w =
    let empty : length (drop at m) ≡ 0 = rw length-drop (omega arith) in
    let whole : reading s m ≡ Ok w.done = w.rest ∙ rw (row_none s w.steps last at (drop at m) empty, append-nil w.done) in
    rw whole (ap (λ (q : Pick Claim). Ok q) (sym w.kept))

-- the same, where the rest of the message is a part of it
pub record WalkedTo (s : Setup) (m : List ℕ) (wanted : ℕ) (last : Option ℕ) (p : Pick Claim) (rest : Piece) : Type 0 where
  pub left : rest.bytes ≡ drop rest.at m
  pub walked : Walked s m wanted rest.at last p

pub rest_begins : (s : Setup) (m : List ℕ) (wanted : ℕ) → WalkedTo s m wanted None (record { seen = 0; kept = None }) (whole_of m)
rest_begins s m wanted = record { left = refl; walked = walk_begins s m wanted }

module _ (s : Setup) (m : List ℕ) (wanted : ℕ) (last : Option ℕ) (p : Pick Claim) (rest : Piece) (w : WalkedTo s m wanted last p rest) where
  rest_inside : none rest ≡ false → rest.at < length m
  rest_inside b = omega (arith, none_false rest b, ap length w.left, length-drop rest.at m)

  -- fewer claims came by than the message has bytes
  pub rest_few : none rest ≡ false → p.seen < length m
  rest_few b = omega (arith, rest_inside b, ap (λ (q : Pick Claim). q.seen) w.walked.kept, w.walked.few)

  pub rest_goes : none rest ≡ false → (e : Entry) (q : Pick Claim) → q ≡ noted wanted p e.claim → Ok e ≡ entry_of s last rest.at rest.bytes → 7 ≤ e.size → e.size ≤ length rest.bytes
      → WalkedTo s m wanted (Some e.index) q (after e.size rest)
  rest_goes b e q note found large fits =
      let here : rest.at + min e.size (length rest.bytes) ≡ rest.at + e.size = omega arith in
      let found₁ : entry_of s last rest.at (drop rest.at m) ≡ Ok e = rw (← w.left) (sym found) in
      let fits₁ : e.size ≤ length (drop rest.at m) = rw (← w.left) fits in
      record {
        left = ap (drop e.size) w.left ∙ drop-drop e.size rest.at m ∙ ap (λ (i : ℕ). drop i m) (sym here);
        walked = subst (λ (i : ℕ). Walked s m wanted i (Some e.index) q) (sym here)
            (walk_goes s m wanted rest.at last p (rest_inside b) e q note found₁ large fits₁ w.walked);
      }

  pub rest_stops : none rest ≡ false → (e : Refusal) → Err e ≡ entry_of s last rest.at rest.bytes → Err e ≡ keeps (reading s m) (picked wanted)
  rest_stops b e found =
      sym (walk_stops s m wanted rest.at last p (rest_inside b) e (rw (← w.left) (sym found)) w.walked)

  pub rest_ends : none rest ≡ true → Ok p ≡ keeps (reading s m) (picked wanted)
  rest_ends b =
      sym (walk_ends s m wanted rest.at last p (omega (arith, none_true rest b, ap length w.left, length-drop rest.at m)) w.walked)
