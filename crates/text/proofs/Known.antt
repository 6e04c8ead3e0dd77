use Rattle.std.proofs.Common.{◌≡◌, ℕ, ◌+◌, ◌<◌, ◌≤◌, Bool, true, false, ◌||◌, cond, List, ◌++◌, length, get_or, drop, is_some, Some, None, Option, codes, decimal, sym, ap, ◌∙◌, append_assoc, append-nil}
use Rattle.std.proofs.lemmas.List.{at_drop_more, at_drop_all}
use Rattle.text.specs.Claims.{flag_lead, flag_text, flags_from}

-- the flags from i on are the one at i and those after it
flags_at : (bs all : List ℕ) (fs : List (Option Bool)) (i : ℕ) (later : Bool) (f : Option Bool) → i < length fs → get_or fs i None ≡ f
    → bs ++ flags_from later i (drop i fs) ≡ all
    → (bs ++ flag_text later i f) ++ flags_from (later || is_some f) (i + 1) (drop (i + 1) fs) ≡ all
flags_at bs all fs i later f h e p =
    append_assoc bs (flag_text later i f) (flags_from (later || is_some f) (i + 1) (drop (i + 1) fs))
    ∙ ap (λ (o : Option Bool). bs ++ (flag_text later i o ++ flags_from (later || is_some o) (i + 1) (drop (i + 1) fs))) (sym e)
    ∙ ap (λ (b : List ℕ). bs ++ b) (sym (at_drop_more (flags_from later i) fs i None h))
    ∙ p

-- one more flag is written
pub flag_written : (bs all lead : List ℕ) (fs : List (Option Bool)) (i : ℕ) (later b : Bool) → i < length fs → get_or fs i None ≡ Some b → lead ≡ flag_lead later
    → bs ++ flags_from later i (drop i fs) ≡ all
    → (bs ++ (lead ++ (decimal i ++ (codes ":" ++ cond b (codes "true") (codes "false"))))) ++ flags_from true (i + 1) (drop (i + 1) fs) ≡ all
flag_written bs all lead fs i true true h e l p = rw l (flags_at bs all fs i true (Some true) h e p)
flag_written bs all lead fs i true false h e l p = rw l (flags_at bs all fs i true (Some false) h e p)
flag_written bs all lead fs i false true h e l p = rw l (flags_at bs all fs i false (Some true) h e p)
flag_written bs all lead fs i false false h e l p = rw l (flags_at bs all fs i false (Some false) h e p)

-- a flag that is not known is left out
pub flag_left_out : (bs all : List ℕ) (fs : List (Option Bool)) (i : ℕ) (later : Bool) → i < length fs → get_or fs i None ≡ None
    → bs ++ flags_from later i (drop i fs) ≡ all → bs ++ flags_from later (i + 1) (drop (i + 1) fs) ≡ all
flag_left_out bs all fs i true h e p =
    ap (λ (b : List ℕ). b ++ flags_from true (i + 1) (drop (i + 1) fs)) (sym (append-nil bs)) ∙ flags_at bs all fs i true None h e p
flag_left_out bs all fs i false h e p =
    ap (λ (b : List ℕ). b ++ flags_from false (i + 1) (drop (i + 1) fs)) (sym (append-nil bs)) ∙ flags_at bs all fs i false None h e p

-- no flag is left
pub flags_done : (bs all : List ℕ) (fs : List (Option Bool)) (i : ℕ) (later : Bool) → length fs ≤ i → bs ++ flags_from later i (drop i fs) ≡ all → bs ≡ all
flags_done bs all fs i later h p = sym (append-nil bs) ∙ ap (λ (b : List ℕ). bs ++ b) (sym (at_drop_all (flags_from later i) fs i h)) ∙ p
