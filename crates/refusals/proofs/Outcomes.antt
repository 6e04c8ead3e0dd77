use Rattle.std.proofs.Common.{◌≡◌, Bool, true, false, cond, ◌⊎◌, IfSome, Some, None, Ok, Err, Option, refl, subst, inl, inr, arith}
use Rattle.std.specs.Option.{option_map}
use Rattle.std.proofs.lemmas.Bool.{cond-true}
use Rattle.refusals.specs.Reading.{Outcome, onward, keeps, need, or_refuse}
use Rattle.refusals.specs.declared.Refusal.{Refusal}

-- what was found, where something was found in the end

pub onward_back : {A B : Type 0} (r : Outcome A) (f : A → Outcome B) (y : B) → onward r f ≡ Ok y → (x : A) × (r ≡ Ok x) × (f x ≡ Ok y)
onward_back (Ok x) f y e = (x, refl, e)
onward_back (Err e) f y k = absurd (grind arith)

pub keeps_back : {A B : Type 0} (r : Outcome A) (f : A → B) (y : B) → keeps r f ≡ Ok y → (x : A) × (r ≡ Ok x) × (f x ≡ y)
keeps_back (Ok x) f y e = (x, refl, grind arith)
keeps_back (Err e) f y k = absurd (grind arith)

pub need_back : {A : Type 0} (b : Bool) (e : Refusal) (r : Outcome A) (y : A) → need b e r ≡ Ok y → (b ≡ true) × (r ≡ Ok y)
need_back true e r y k = (refl, k)
need_back false e r y k = absurd (grind arith)

pub or_refuse_back : {A B : Type 0} (o : Option A) (e : Refusal) (f : A → Outcome B) (y : B) → or_refuse o e f ≡ Ok y → (x : A) × (o ≡ Some x) × (f x ≡ Ok y)
or_refuse_back None e f y k = absurd (grind arith)
or_refuse_back (Some x) e f y k = (x, refl, k)

-- a test that holds lets the reading go on
pub need_true : {A : Type 0} (b : Bool) (e : Refusal) (r : Outcome A) → b ≡ true → need b e r ≡ r
need_true b e r h = cond-true b r _ h

-- the way that a choice went, and what a case holds

pub cond_back : {A : Type 0} (b : Bool) (x y z : A) → cond b x y ≡ z → ((b ≡ true) × (x ≡ z)) ⊎ ((b ≡ false) × (y ≡ z))
cond_back true x y z e = inl (refl, e)
cond_back false x y z e = inr (refl, e)

pub some_same : {A : Type 0} (x y : A) → ◌≡◌ {A = Option A} (Some x) (Some y) → x ≡ y
some_same x y e = grind arith

pub mapped_back : {A B : Type 0} (f : A → B) (o : Option A) (y : B) → option_map f o ≡ Some y → (x : A) × (o ≡ Some x) × (f x ≡ y)
mapped_back f None y e = absurd (grind arith)
mapped_back f (Some x) y e = (x, refl, grind arith)

pub ok_same : {A : Type 0} (x y : A) → ◌≡◌ {A = Outcome A} (Ok x) (Ok y) → x ≡ y
ok_same x y e = grind arith

-- what holds of what is there
pub found_some : {A : Type 0} (o : Option A) (P : A → Type 0) (x : A) → IfSome o P → o ≡ Some x → P x
found_some (Some y) P x h e = subst P (some_same y x e) h
found_some None P x h e = absurd (grind arith)
