use Rattle.std.proofs.Common.{◌≡◌, ℕ, ◌+◌, ◌-◌, ◌^◌, ◌<◌, ◌≤◌, List, [], ◌∷◌, ◌++◌, length, IfSome, Some, None, Ok, Err, Option, sym, refl, ap, ◌∙◌, subst, append_assoc, arith}
use Rattle.std.proofs.lemmas.List.{append-nil, length_push}
use Rattle.std.specs.Option.{ok_or}
use Rattle.std.specs.List.{slice_get}
use Rattle.refusals.specs.Reading.{Outcome, onward, keeps}
use Rattle.refusals.specs.declared.Refusal.{Refusal}
use Rattle.refusals.specs.declared.Refusal.TheVariants.{NoSuchNumber}
use Rattle.parts.specs.Picks.{picked, noted}
use Rattle.parts.specs.declared.kinds.Pick.{Pick}
use Rattle.parts.proofs.Noted.{picked_more}
use Rattle.manifests.specs.declared.kinds.Walk.{Walk}
use Rattle.manifests.specs.declared.kinds.Step.{Step}
use Rattle.manifests.specs.declared.kinds.Triple.{Triple}
use Rattle.manifests.specs.Triples.{triples_of}
use Rattle.manifests.specs.Walks.{left, further, begun, step_from, triple_of, cursor_behind}
use Rattle.manifests.proofs.Collected.{keeps_same, keeps_twice}
use Rattle.manifests.proofs.Leaving.{left_step, left_begun}

-- how far a walk has come: `done` came by, and what is left for the cursor are the others
pub record Passed (signer : ℕ) (m : List ℕ) (wanted : ℕ) (w : Walk) (p : Pick Triple) : Type 0 where
  pub done : List Triple
  pub few : length done ≤ w.cursor.used
  pub within : w.cursor.used ≤ length m
  pub kept : p ≡ picked wanted done
  pub rest : triples_of signer m ≡ keeps (left w.cursor m) (λ ts. done ++ ts)
  pub message : w.message.now ≡ m

module _ (signer : ℕ) (m : List ℕ) (wanted : ℕ) where
  pub pass_begins : (w : Walk) → Ok w.cursor ≡ begun signer m → w.cursor.used ≤ length m → w.message.now ≡ m → Passed signer m wanted w (record { seen = 0; kept = None })
  pass_begins w came fits same = record {
    done = [];
    few = omega arith;
    within = fits;
    kept = refl;
    rest = left_begun signer m ∙ rw (← came) (sym (keeps_same (left w.cursor m) _ (λ ts. refl)));
    message = same;
  }

  pub pass_never : (e : Refusal) → Err e ≡ begun signer m → Err e ≡ keeps (triples_of signer m) (picked wanted)
  pass_never e stopped = sym (rw (left_begun signer m, ← stopped))

  -- the step r that a walk w takes
  module _ (w : Walk) (p : Pick Triple) (f : Passed signer m wanted w p) where
    here : (r : Outcome (Option Step)) → step_from w.cursor w.message.now ≡ r → triples_of signer m ≡ keeps (onward r (further m)) (λ ts. f.done ++ ts)
    here r is =
        let same : step_from w.cursor m ≡ r = ap (λ (l : List ℕ). step_from w.cursor l) (sym f.message) ∙ is in
        f.rest ∙ ap (λ (x : Outcome (List Triple)). keeps x (λ ts. f.done ++ ts)) (left_step w.cursor m ∙ ap (λ (x : Outcome (Option Step)). onward x (further m)) same)

    module _ (o : Option Triple) (t : Triple) (some : o ≡ Some t) (v : Walk) (goes : IfSome o (λ _. (w.cursor.used < v.cursor.used) × (v.cursor.used ≤ length w.message.now))) where
      goes_on : (w.cursor.used < v.cursor.used) × (v.cursor.used ≤ length m)
      goes_on = let P : Option Triple → Type 0 = λ x. IfSome x (λ _. (w.cursor.used < v.cursor.used) × (v.cursor.used ≤ length w.message.now)) in
          let g = subst P some goes in
          (g.0, subst (λ (l : List ℕ). v.cursor.used ≤ length l) f.message g.1)

      pub pass_nears : length m - v.cursor.used < length m - w.cursor.used
      pass_nears = omega (arith, goes_on.0, goes_on.1)

      module _ (stays : v.message.now ≡ w.message.now) (bound : length m < 2 ^ 64) (q : Pick Triple) (note : q ≡ noted wanted p t) where
        pub pass_goes : (r : Outcome (Option Step)) → step_from w.cursor w.message.now ≡ r → Ok o ≡ keeps r triple_of → v.cursor ≡ cursor_behind w.cursor r → Passed signer m wanted v q
        pass_goes (Err e) is came stands = absurd (grind arith)
        pass_goes (Ok None) is came stands = absurd (grind arith)
        pass_goes (Ok (Some s)) is came stands =
            let which : t ≡ s.triple = grind arith in
            let count : length f.done + 1 < 2 ^ 64 = omega (arith, f.few, goes_on.0, goes_on.1) in
            record {
              done = f.done ++ s.triple ∷ [];
              few = rw (length_push f.done s.triple) (omega (arith, f.few, goes_on.0));
              within = goes_on.1;
              kept = note ∙ ap (λ (x : Triple). noted wanted p x) which ∙ ap (λ (x : Pick Triple). noted wanted x s.triple) f.kept ∙ picked_more wanted f.done s.triple count;
              rest = here (Ok (Some s)) is ∙ rw stands (keeps_twice (left s.cursor m) _ _ _ (λ ts. sym (append_assoc f.done (s.triple ∷ []) ts)));
              message = stays ∙ f.message;
            }

    pub pass_stops : (e : Refusal) (r : Outcome (Option Step)) → step_from w.cursor w.message.now ≡ r → Err e ≡ keeps r triple_of → Err e ≡ keeps (triples_of signer m) (picked wanted)
    pass_stops e (Err x) is came = let same : x ≡ e = grind arith in sym (rw (here (Err x) is) (ap (λ (k : Refusal). Err k) same))
    pass_stops e (Ok o) is came = absurd (grind arith)

    pub pass_ends : (o : Option Triple) (r : Outcome (Option Step)) → o ≡ None → step_from w.cursor w.message.now ≡ r → Ok o ≡ keeps r triple_of → Ok p ≡ keeps (triples_of signer m) (picked wanted)
    pass_ends o (Err e) none is came = absurd (grind arith)
    pass_ends o (Ok (Some s)) none is came = absurd (grind arith)
    pass_ends o (Ok None) none is came = sym (rw (here (Ok None) is, append-nil f.done) (ap (λ (q : Pick Triple). Ok q) (sym f.kept)))

-- what a walk tells of the triples
pub count_picked : (r : Outcome (List Triple)) (wanted : ℕ) → keeps r length ≡ keeps (keeps r (picked wanted)) (λ p. p.seen)
count_picked (Ok ts) wanted = refl
count_picked (Err e) wanted = refl

pub triple_picked : (r : Outcome (List Triple)) (wanted : ℕ) → onward r (λ ts. ok_or (slice_get ts wanted) (NoSuchNumber (length ts))) ≡ onward (keeps r (picked wanted)) (λ p. ok_or p.kept (NoSuchNumber p.seen))
triple_picked (Ok ts) wanted = refl
triple_picked (Err e) wanted = refl
