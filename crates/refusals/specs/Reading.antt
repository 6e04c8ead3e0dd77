use Rattle.std.specs.Prelude.{ℕ, Bool, true, cond, List, length, Some, None, Ok, Err, Option, Result, nat_le, nat_lt}
use Rattle.refusals.specs.declared.Refusal.{Refusal}
use Rattle.refusals.specs.declared.Refusal.TheVariants.{MessageEmpty, MessageTooLong}

-- a value, or one refusal
abbrev pub Outcome : Type 0 → Type 0
Outcome A = Result A Refusal

-- go on with what was found
abbrev pub onward : {A B : Type 0} → Outcome A → (A → Outcome B) → Outcome B
onward (Ok x) f = f x
onward (Err e) f = Err e

-- what was found, put to use
abbrev pub keeps : {A B : Type 0} → Outcome A → (A → B) → Outcome B
keeps (Ok x) f = Ok (f x)
keeps (Err e) f = Err e

-- the refusal, unless the test holds
abbrev pub need : {A : Type 0} → Bool → Refusal → Outcome A → Outcome A
need b e r = cond b r (Err e)

-- the refusal, where there is nothing to go on with
abbrev pub or_refuse : {A B : Type 0} → Option A → Refusal → (A → Outcome B) → Outcome B
or_refuse None e f = Err e
or_refuse (Some x) e f = f x

-- a message that may be read: 1 to 65,535 bytes
abbrev pub admitted : List ℕ → Outcome (Unit {0})
admitted m = need (nat_lt 0 (length m)) MessageEmpty (need (nat_le (length m) 65535) MessageTooLong (Ok tt))

-- a number is above the one before it, if there is one
abbrev pub above : Option ℕ → ℕ → Bool
above None n = true
above (Some before) n = nat_lt before n
