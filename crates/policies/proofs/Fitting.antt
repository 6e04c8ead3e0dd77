use Rattle.std.proofs.Common.{◌≡◌, ℕ, ◌<◌, ◌≤◌, true, false, List, ◌++◌, length, take, drop, Decides, sym, refl, ap, ◌∙◌, ⊎_elim, append_assoc, arith}
use Rattle.std.specs.List.{ContainsAt as Has, AllByRecursion}
use Rattle.std.proofs.ByRecursion.{all-has, has_append_left, has_append_right}
use Rattle.std.proofs.lemmas.Slice.Eq.{bytes_eq-Decides}
use Rattle.std.proofs.lemmas.List.{take-append-drop, take_at}
use Rattle.std.proofs.lemmas.Bool.{cases_Bool}
use Rattle.std.proofs.lemmas.Bool.Decides.{Decides-and, Decides-eqb, Decides-like}
use Rattle.claims.specs.Bytes.{content}
use Rattle.lists.proofs.Firsts.{first_some}
use Rattle.policies.specs.Uses.{number_of, same_use}
use Rattle.policies.specs.Grants.{begins, fits, Fits, Wider, grants_permit}
use Rattle.policies.specs.declared.kinds.Use.{Use}
use Rattle.policies.specs.declared.kinds.Use.TheVariants.{Evidence, Reference, Endorsement}
use Rattle.policies.specs.declared.kinds.Grant.{Grant}

use_back : (u v : Use) → number_of u ≡ number_of v → u ≡ v
use_back Evidence Evidence e = refl
use_back Evidence Reference e = absurd (omega arith)
use_back Evidence Endorsement e = absurd (omega arith)
use_back Reference Evidence e = absurd (omega arith)
use_back Reference Reference e = refl
use_back Reference Endorsement e = absurd (omega arith)
use_back Endorsement Evidence e = absurd (omega arith)
use_back Endorsement Reference e = absurd (omega arith)
use_back Endorsement Endorsement e = refl

-- uses are the same exactly when their numbers are
use_decides : (u v : Use) → Decides (same_use u v) (u ≡ v)
use_decides u v = Decides-like _ (use_back u v) (ap number_of) (Decides-eqb (number_of u) (number_of v))

-- bytes begin so exactly when they are the beginning with some rest
begins_decides : (b c : List ℕ) → Decides (begins b c) ((rest : List ℕ) × (c ≡ b ++ rest))
begins_decides b c =
    Decides-like _
    (λ e. (drop (length b) c, sym (take-append-drop (length b) c) ∙ sym (ap (λ l. l ++ drop (length b) c) e)))
    (λ p. sym (ap (take (length b)) p.1 ∙ take_at b p.0 (length b) refl))
    (bytes_eq-Decides b (take (length b) c))

begins_trans : (a b c : List ℕ) → begins a b ≡ true → begins b c ≡ true → begins a c ≡ true
begins_trans a b c p q =
    let x = (begins_decides a b).0 p in
    let y = (begins_decides b c).0 q in
    (begins_decides a c).1 (x.0 ++ y.0, y.1 ∙ ap (λ l. l ++ y.0) x.1 ∙ append_assoc a x.0 y.0)

pub fits_decides : (g : Grant) (a : ℕ) (u : Use) (c : List ℕ) → Decides (fits g a u c) (Fits g a u c)
fits_decides g a u c =
    Decides-like _ (λ p. (p.0.0, p.0.1, p.1)) (λ p. ((p.0, p.1), p.2))
    (Decides-and _ _ (Decides-and _ _ (Decides-eqb g.authority a) (use_decides g.usage u)) (begins_decides (content g.beginning) c))

-- a shorter beginning fits wherever a longer one does
pub fits_wider : (g h : Grant) (a : ℕ) (u : Use) (c : List ℕ) → Wider g h → fits h a u c ≡ true → fits g a u c ≡ true
fits_wider g h a u c w e =
    let p = (fits_decides h a u c).0 e in
    (fits_decides g a u c).1 (
      w.0 ∙ p.0,
      w.1 ∙ p.1,
      (begins_decides (content g.beginning) c).0
          (begins_trans (content g.beginning) (content h.beginning) c w.2 ((begins_decides (content h.beginning) c).1 p.2)),
    )

-- a list permits exactly what some grant in it fits
pub grants_decides : (gs : List Grant) (a : ℕ) (u : Use) (c : List ℕ) → Decides (grants_permit gs a u c) ((g : Grant) × Has gs g × Fits g a u c)
grants_decides gs a u c =
    Decides-like _
    (λ s. (s.0, s.1, (fits_decides s.0 a u c).0 s.2))
    (λ s. (s.0, s.1, (fits_decides s.0 a u c).1 s.2))
    (first_some (λ g. fits g a u c) gs)

-- more grants never permit less
pub grants_more : (gs before after : List Grant) (a : ℕ) (u : Use) (c : List ℕ) → grants_permit gs a u c ≡ true → grants_permit (before ++ (gs ++ after)) a u c ≡ true
grants_more gs before after a u c e =
    let s = (grants_decides gs a u c).0 e in
    (grants_decides (before ++ (gs ++ after)) a u c).1
    (s.0, has_append_right before (gs ++ after) s.0 (has_append_left gs after s.0 s.1), s.2)

-- grants to authorities up to 63 permit none above
pub grants_above : (gs : List Grant) (a : ℕ) (u : Use) (c : List ℕ) → AllByRecursion (λ g. g.authority < 64) gs → 64 ≤ a → grants_permit gs a u c ≡ false
grants_above gs a u c low h =
    ⊎_elim
    (λ (e : grants_permit gs a u c ≡ true).
    let s = (grants_decides gs a u c).0 e in
    let below : s.0.authority < 64 = all-has (λ g. g.authority < 64) gs s.0 low s.1 in
    let is : s.0.authority ≡ a = s.2.0 in
    absurd (omega arith))
    (λ (e : grants_permit gs a u c ≡ false). e)
    (cases_Bool (grants_permit gs a u c))
