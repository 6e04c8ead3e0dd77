use Rattle.std.proofs.Common.{◌≡◌, ℕ, ◌+◌, ◌-◌, ◌<◌, Bool, true, false, cond, not, ltb, List, [], ◌∷◌, ◌++◌, length, Some, None, Ok, Err, Option, sym, refl, ap, ◌∙◌, inl, inr, arith}
use Rattle.std.proofs.lemmas.Bool.{cases_Bool, cond-true, cond-false, ltb-true, ltb-false}
use Rattle.std.proofs.lemmas.List.{append-nil}
use Rattle.refusals.specs.Reading.{Outcome, onward, keeps, need, or_refuse, above}
use Rattle.refusals.specs.declared.Refusal.{Refusal}
use Rattle.refusals.specs.declared.Refusal.TheVariants.{Malformed, Unknown, Missing}
use Rattle.claims.specs.Environments.{no_environment}
use Rattle.claims.specs.declared.kinds.Environment.{Environment}
use Rattle.parts.specs.Holders.{Element}
use Rattle.parts.specs.Parts.{Piece, whole_of, after}
use Rattle.parts.specs.declared.kinds.Read.{Read}
use Rattle.cbor.specs.Holders.{counted_from, array_by, entry_at}
use Rattle.cbor.specs.Scalars.{Rule, stores, number_at, array_at, map_at}
use Rattle.cbor.specs.declared.kinds.Keyed.{Keyed}
use Rattle.cbor.proofs.Counts.{counted_more, counted_none}
use Rattle.records.specs.Records.{record_head}
use Rattle.manifests.specs.declared.kinds.Cursor.{Cursor}
use Rattle.manifests.specs.declared.kinds.Section.{Section}
use Rattle.manifests.specs.declared.kinds.Section.TheVariants.{References, Endorsements, Conditionals}
use Rattle.manifests.specs.declared.kinds.Step.{Step}
use Rattle.manifests.specs.declared.kinds.Triple.{Triple}
use Rattle.manifests.specs.Triples.{one, collects, reference_at, reference_record, endorsement_record, conditional_pair, section_of, element_of, triples_under, triples_of}
use Rattle.manifests.specs.Walks.{entries_left, elements_left, left, further, array_some, ahead_of, begun, in_entry, in_record, past_element, map_step, element_step, record_step, section_step, entry_step, some, step_from}
use Rattle.cbor.proofs.Strings.{onward_keeps}
use Rattle.manifests.proofs.Collected.{keeps_twice, keeps_same, keeps_onward, onward_same, onward_twice, grown, counted_behind, counted_view, collects_front, counted_front, front_onward}

-- a test or a choice before what is found

onward_need : {A B : Type 0} (b : Bool) (e : Refusal) (r : Outcome A) (f : A → Outcome B) → onward (need b e r) f ≡ need b e (onward r f)
onward_need true e r f = refl
onward_need false e r f = refl

keeps_need : {A B : Type 0} (b : Bool) (e : Refusal) (r : Outcome A) (f : A → B) → keeps (need b e r) f ≡ need b e (keeps r f)
keeps_need true e r f = refl
keeps_need false e r f = refl

onward_choice : {A B C : Type 0} (o : Option A) (e : Refusal) (f : A → Outcome B) (g : B → Outcome C) → onward (or_refuse o e f) g ≡ or_refuse o e (λ x. onward (f x) g)
onward_choice None e f g = refl
onward_choice (Some x) e f g = refl

choice_same : {A B : Type 0} (o : Option A) (e : Refusal) (f g : A → Outcome B) → ((x : A) → f x ≡ g x) → or_refuse o e f ≡ or_refuse o e g
choice_same None e f g h = refl
choice_same (Some x) e f g h = h x

need_same : {A : Type 0} (b : Bool) (e : Refusal) (r s : Outcome A) → r ≡ s → need b e r ≡ need b e s
need_same b e r s h = ap (λ (x : Outcome _). need b e x) h

-- an array that is not empty

some_by : (r : Outcome (Read ℕ)) (e : Refusal) {B : Type 0} (f : Read ℕ → Outcome B)
    → onward r (λ n. need (ltb 0 n.value) e (f n)) ≡ onward (onward r (λ n. need (ltb 0 n.value) e (Ok n))) f
some_by (Err e) _ f = refl
some_by (Ok n) e f = sym (onward_need (ltb 0 n.value) e (Ok n) f)

array_some_lem : {S : Type 0} (element : Element S) (s : S) (p : Piece) → array_by element s p ≡ onward (array_some p) (λ n. counted_from element n.value s n.size p)
array_some_lem element s p = some_by (array_at p) (Missing p.at) (λ n. counted_from element n.value s n.size p)

some_same_by : (r : Outcome (Read ℕ)) (e : Refusal) {B : Type 0} (f g : Read ℕ → Outcome B) → ((n : Read ℕ) → 0 < n.value → f n ≡ g n)
    → onward (onward r (λ n. need (ltb 0 n.value) e (Ok n))) f ≡ onward (onward r (λ n. need (ltb 0 n.value) e (Ok n))) g
some_same_by (Err e) _ f g h = refl
some_same_by (Ok n) e f g h = elim (cases_Bool (ltb 0 n.value)) [
  | inl t ↦ rw t (h n (ltb-true _ _ t))
  | inr t ↦ rw t
]

some_same : (p : Piece) {B : Type 0} (f g : Read ℕ → Outcome B) → ((n : Read ℕ) → 0 < n.value → f n ≡ g n) → onward (array_some p) f ≡ onward (array_some p) g
some_same p f g h = some_same_by (array_at p) (Missing p.at) f g h

-- the first of a row of elements that give lists, by what is left behind it
list_first : {A : Type 0} (rule : Rule (List A)) (n used : ℕ) (p : Piece) (rest : ℕ → Outcome (List A)) → 0 < n
    → onward (counted_from (collects rule) n [] used p) (λ x. keeps (rest x.size) (λ zs. x.value ++ zs))
    ≡ onward (rule (after used p)) (λ y. keeps (onward (counted_from (collects rule) (n - 1) [] (used + y.size) p) (λ x. keeps (rest x.size) (λ zs. x.value ++ zs))) (λ zs. y.value ++ zs))
list_first {A = A} rule n used p rest h =
    let behind : Read (List A) → Outcome (List A) = λ x. keeps (rest x.size) (λ zs. x.value ++ zs) in
    ap (λ (r : Outcome (Read (List A))). onward r behind) (counted_more (collects rule) n [] used p h)
    ∙ onward_twice (collects rule [] (after used p)) _ behind
    ∙ onward_keeps (rule (after used p)) _ _
    ∙ onward_same (rule (after used p)) _ _ (λ y.
    ap (λ (r : Outcome (Read (List A))). onward r behind) (counted_front rule (n - 1) y.value (used + y.size) p)
    ∙ front_onward (counted_from (collects rule) (n - 1) [] (used + y.size) p) y.value rest)

-- the same of elements that give one each
one_first : {A : Type 0} (rule : Rule A) (n used : ℕ) (p : Piece) (rest : ℕ → Outcome (List A)) → 0 < n
    → onward (counted_from (collects (one rule)) n [] used p) (λ x. keeps (rest x.size) (λ zs. x.value ++ zs))
    ≡ onward (rule (after used p)) (λ y. keeps (onward (counted_from (collects (one rule)) (n - 1) [] (used + y.size) p) (λ x. keeps (rest x.size) (λ zs. x.value ++ zs))) (λ zs. y.value ∷ zs))
one_first rule n used p rest h = list_first (one rule) n used p rest h ∙ onward_keeps (rule (after used p)) _ _

-- what is left behind a walk that is in no record

none_left : (r : Outcome (List Triple)) → keeps r (λ ts. [] ++ ts) ≡ r
none_left r = keeps_same r _ (λ ts. refl)

outside_record : (c : Cursor) (m : List ℕ) → c.maps ≡ 0 → left c m ≡ elements_left c c.used m
outside_record c m e =
    ap (λ (r : Outcome (Read (List Triple))). onward r (λ x. keeps (elements_left c x.size m) (λ ts. x.value ++ ts))) (counted_none (collects (one (reference_at c.signer c.environment))) c.maps [] c.used (whole_of m) e)
    ∙ none_left (elements_left c c.used m)

outside_entry : (c : Cursor) (m : List ℕ) → c.elements ≡ 0 → elements_left c c.used m ≡ entries_left c c.used m
outside_entry c m e =
    ap (λ (r : Outcome (Read (List Triple))). onward r (λ x. keeps (entries_left c x.size m) (λ ts. x.value ++ ts))) (counted_none (collects (element_of c.signer c.section)) c.elements [] c.used (whole_of m) e)
    ∙ none_left (entries_left c c.used m)

-- a step, and what is left behind it

abbrev stepped : List ℕ → Outcome Step → Outcome (List Triple)
stepped m r = onward r (λ s. further m (Some s))

map_left : (c : Cursor) (m : List ℕ) → 0 < c.maps → left c m ≡ stepped m (map_step c m)
map_left c m h =
    one_first (reference_at c.signer c.environment) c.maps c.used (whole_of m) (λ i. elements_left c i m) h
    ∙ sym (onward_keeps (reference_at c.signer c.environment (ahead_of c m)) _ _)

-- the walk stands before an element of a section
abbrev in_section : Cursor → Section → Cursor
in_section c s = record { signer = c.signer; used = c.used; entries = c.entries; last = c.last; section = s; elements = c.elements; environment = c.environment; maps = c.maps }

element_left : (s : Section) (rule : Rule Triple) (c : Cursor) (m : List ℕ) → 0 < c.elements → element_of c.signer s ≡ one rule
    → elements_left (in_section c s) c.used m ≡ stepped m (element_step rule (in_section c s) m)
element_left s rule c m h e =
    let d : Cursor = in_section c s in
    let behind : ℕ → Outcome (List Triple) = λ i. entries_left d i m in
    ap (λ (f : Rule (List Triple)). onward (counted_from (collects f) c.elements [] c.used (whole_of m)) (λ x. keeps (behind x.size) (λ ts. x.value ++ ts))) e
    ∙ one_first rule c.elements c.used (whole_of m) behind h
    ∙ onward_same (rule (ahead_of c m)) _ _ (λ y.
    ap (λ (f : Rule (List Triple)). keeps (onward (counted_from (collects f) (c.elements - 1) [] (c.used + y.size) (whole_of m)) (λ x. keeps (behind x.size) (λ ts. x.value ++ ts))) (λ ts. y.value ∷ ts)) (sym e)
    ∙ sym (keeps_twice (elements_left (past_element d (c.used + y.size)) (c.used + y.size) m) _ _ _ (λ ts. refl)))
    ∙ sym (onward_keeps (rule (ahead_of c m)) _ _)

-- a record whose head is read: its measurement maps, and what is left behind them
record_inside : (c : Cursor) (m : List ℕ) (e : Read Environment) (n : Read ℕ)
    → onward (grown e.size (counted_from (collects (one (reference_at c.signer e.value))) n.value [] n.size (after e.size (ahead_of c m))))
    (λ x. keeps (elements_left (past_element c 0) (c.used + x.size) m) (λ ts. x.value ++ ts))
    ≡ left (in_record c e.value n.value (c.used + (e.size + n.size))) m
record_inside c m e n =
    let element : Element (List Triple) = collects (one (reference_at c.signer e.value)) in
    let behind : Read (List Triple) → Outcome (List Triple) = λ x. keeps (elements_left (past_element c 0) x.size m) (λ ts. x.value ++ ts) in
    sym (
    ap (λ (r : Outcome (Read (List Triple))). onward r behind) (sym (counted_behind element n.value [] c.used (e.size + n.size) (whole_of m)))
    ∙ ap (λ (r : Outcome (Read (List Triple))). onward (grown c.used r) behind) (sym (counted_behind element n.value [] e.size n.size (ahead_of c m)))
    ∙ onward_keeps (grown e.size (counted_from element n.value [] n.size (after e.size (ahead_of c m)))) _ behind
    )

record_left : (c : Cursor) (m : List ℕ) → 0 < c.elements → elements_left (in_section c References) c.used m ≡ stepped m (record_step (in_section c References) m)
record_left c m h =
    let d : Cursor = in_section c References in
    let q : Piece = ahead_of c m in
    let behind : Read (List Triple) → Outcome (List Triple) = λ x. keeps (elements_left (past_element d 0) (c.used + x.size) m) (λ ts. x.value ++ ts) in
    list_first (reference_record c.signer) c.elements c.used (whole_of m) (λ i. entries_left d i m) h
    ∙ onward_twice (record_head q) _ behind
    ∙ onward_same (record_head q) _ _ (λ e.
    let element : Element (List Triple) = collects (one (reference_at c.signer e.value)) in
    let p : Piece = after e.size q in
    ap (λ (r : Outcome (Read (List Triple))). onward (grown e.size r) behind) (array_some_lem element [] p)
    ∙ ap (λ (r : Outcome (Read (List Triple))). onward r behind) (keeps_onward (array_some p) _ _)
    ∙ onward_twice (array_some p) _ behind
    ∙ some_same p _ _ (λ n positive.
    record_inside d m e n ∙ map_left (in_record d e.value n.value (c.used + (e.size + n.size))) m positive)
    ∙ sym (onward_twice (array_some p) _ _))
    ∙ sym (onward_twice (record_head q) _ _)

section_left : (s : Section) (c : Cursor) (m : List ℕ) → 0 < c.elements → elements_left (in_section c s) c.used m ≡ stepped m (section_step s (in_section c s) m)
section_left References c m h = record_left c m h
section_left Endorsements c m h = element_left Endorsements (endorsement_record c.signer) c m h refl
section_left Conditionals c m h = element_left Conditionals (conditional_pair c.signer) c m h refl

-- entries behind a list are that list and the entries

abbrev behind : List Triple → Keyed (List Triple) → Keyed (List Triple)
behind ts s = record { last = s.last; fields = ts ++ s.fields }

under_front : (signer : ℕ) (xs ys : List Triple) (key at : ℕ) (p : Piece) → triples_under signer (xs ++ ys) key at p ≡ stores (triples_under signer ys key at p) (λ ts. xs ++ ts)
under_front signer xs ys key at p = by (section_of key)
  where
    array : (s : Section) → array_by (collects (element_of signer s)) (xs ++ ys) p ≡ stores (array_by (collects (element_of signer s)) ys p) (λ ts. xs ++ ts)
    array s =
        let element : Element (List Triple) = collects (element_of signer s) in
        array_some_lem element (xs ++ ys) p
        ∙ onward_same (array_some p) _ _ (λ n. counted_view element (λ ts. xs ++ ts) (collects_front (element_of signer s) xs) n.value ys n.size p)
        ∙ sym (keeps_onward (array_some p) _ _)
        ∙ ap (λ (r : Outcome (Read (List Triple))). stores r (λ ts. xs ++ ts)) (sym (array_some_lem element ys p))

    by : (o : Option Section) → or_refuse o (Unknown at) (λ s. array_by (collects (element_of signer s)) (xs ++ ys) p) ≡ stores (or_refuse o (Unknown at) (λ s. array_by (collects (element_of signer s)) ys p)) (λ ts. xs ++ ts)
    by None = refl
    by (Some s) = array s

entry_front : (signer : ℕ) (xs : List Triple) (s : Keyed (List Triple)) (p : Piece) → entry_at (triples_under signer) (behind xs s) p ≡ stores (entry_at (triples_under signer) s p) (behind xs)
entry_front signer xs s p =
    onward_same (number_at p) _ _ (λ key.
    need_same (above s.last key.value) _ _ _ (
    ap (λ (r : Outcome (Read (List Triple))). onward r (λ x. Ok (record { value = record { last = Some key.value; fields = x.value }; size = key.size + x.size })))
    (under_front signer xs s.fields key.value p.at (after key.size p))
    ∙ onward_keeps (triples_under signer s.fields key.value p.at (after key.size p)) _ _
    ∙ sym (keeps_onward (triples_under signer s.fields key.value p.at (after key.size p)) _ _))
    ∙ sym (keeps_need (above s.last key.value) _ _ _))
    ∙ sym (keeps_onward (number_at p) _ _)

-- nothing is left over behind the entries
abbrev whole : List ℕ → Read (Keyed (List Triple)) → Outcome (List Triple)
whole m r = need (not (ltb r.size (length m))) (Malformed r.size) (Ok r.value.fields)

whole_front : (m : List ℕ) (ts : List Triple) (r : Outcome (Read (Keyed (List Triple)))) → onward (stores r (behind ts)) (whole m) ≡ keeps (onward r (whole m)) (λ zs. ts ++ zs)
whole_front m ts (Err e) = refl
whole_front m ts (Ok r) = sym (keeps_need (not (ltb r.size (length m))) _ _ _)

entries_front : (c : Cursor) (n key used : ℕ) (ts : List Triple) (m : List ℕ)
    → onward (counted_from (entry_at (triples_under c.signer)) n (record { last = Some key; fields = ts }) used (whole_of m)) (whole m)
    ≡ keeps (onward (counted_from (entry_at (triples_under c.signer)) n (record { last = Some key; fields = [] }) used (whole_of m)) (whole m)) (λ zs. ts ++ zs)
entries_front c n key used ts m =
    let element : Element (Keyed (List Triple)) = entry_at (triples_under c.signer) in
    ap (λ (l : List Triple). onward (counted_from element n (record { last = Some key; fields = l }) used (whole_of m)) (whole m)) (sym (append-nil ts))
    ∙ ap (λ (r : Outcome (Read (Keyed (List Triple)))). onward r (whole m)) (counted_view element (behind ts) (entry_front c.signer ts) n (record { last = Some key; fields = [] }) used (whole_of m))
    ∙ whole_front m ts (counted_from element n (record { last = Some key; fields = [] }) used (whole_of m))

-- an entry whose head is read: its elements, and what is left behind them
entry_inside : (c : Cursor) (m : List ℕ) (s : Section) (key n : Read ℕ)
    → onward (counted_from (collects (element_of c.signer s)) n.value [] n.size (after key.size (ahead_of c m)))
    (λ x. onward (counted_from (entry_at (triples_under c.signer)) (c.entries - 1) (record { last = Some key.value; fields = x.value }) (c.used + (key.size + x.size)) (whole_of m)) (whole m))
    ≡ elements_left (in_entry c key.value s n.value (c.used + (key.size + n.size))) (c.used + (key.size + n.size)) m
entry_inside c m s key n =
    let element : Element (List Triple) = collects (element_of c.signer s) in
    let d : Cursor = in_entry c key.value s n.value (c.used + (key.size + n.size)) in
    let rest : Read (List Triple) → Outcome (List Triple) = λ x. keeps (entries_left d x.size m) (λ ts. x.value ++ ts) in
    let row : Outcome (Read (List Triple)) = counted_from element n.value [] n.size (after key.size (ahead_of c m)) in
    onward_same row _ _ (λ x. entries_front c (c.entries - 1) key.value (c.used + (key.size + x.size)) x.value m)
    ∙ sym (
    ap (λ (r : Outcome (Read (List Triple))). onward r rest) (sym (counted_behind element n.value [] c.used (key.size + n.size) (whole_of m)))
    ∙ ap (λ (r : Outcome (Read (List Triple))). onward (grown c.used r) rest) (sym (counted_behind element n.value [] key.size n.size (ahead_of c m)))
    ∙ onward_keeps (grown key.size row) _ rest
    ∙ onward_keeps row _ _
    )

entry_left : (c : Cursor) (m : List ℕ) → 0 < c.entries → entries_left c c.used m ≡ stepped m (entry_step c m)
entry_left c m h =
    let q : Piece = ahead_of c m in
    let start : Keyed (List Triple) = record { last = c.last; fields = [] } in
    let rest : Read (Keyed (List Triple)) → Outcome (List Triple) = λ r. onward (counted_from (entry_at (triples_under c.signer)) (c.entries - 1) r.value (c.used + r.size) (whole_of m)) (whole m) in
    ap (λ (r : Outcome (Read (Keyed (List Triple)))). onward r (whole m)) (counted_more (entry_at (triples_under c.signer)) c.entries start c.used (whole_of m) h)
    ∙ onward_twice (entry_at (triples_under c.signer) start q) _ (whole m)
    ∙ onward_twice (number_at q) _ rest
    ∙ onward_same (number_at q) _ _ (λ key.
    let p : Piece = after key.size q in
    onward_need (above c.last key.value) _ _ rest
    ∙ need_same (above c.last key.value) _ _ _ (
    onward_twice (triples_under c.signer [] key.value q.at p) _ rest
    ∙ onward_choice (section_of key.value) _ _ _
    ∙ choice_same (section_of key.value) _ _ _ (λ s.
    ap (λ (r : Outcome (Read (List Triple))). onward r (λ x. rest (record { value = record { last = Some key.value; fields = x.value }; size = key.size + x.size }))) (array_some_lem (collects (element_of c.signer s)) [] p)
    ∙ onward_twice (array_some p) _ _
    ∙ some_same p _ _ (λ n positive.
    entry_inside c m s key n
    ∙ section_left s (in_entry c key.value s n.value (c.used + (key.size + n.size))) m positive)
    ∙ sym (onward_twice (array_some p) _ _))
    ∙ sym (onward_choice (section_of key.value) _ _ _))
    ∙ sym (onward_need (above c.last key.value) _ _ _))
    ∙ sym (onward_twice (number_at q) _ _)

-- what is left for a cursor is the next triple and what is left for the cursor behind it

elements_step : (c : Cursor) (m : List ℕ) → elements_left c c.used m
    ≡ onward (cond (ltb 0 c.elements) (some (section_step c.section c m)) (cond (ltb 0 c.entries) (some (entry_step c m)) (need (not (ltb c.used (length m))) (Malformed c.used) (Ok None)))) (further m)
elements_step c m = elim (cases_Bool (ltb 0 c.elements)) [
  | inl t ↦ section_left c.section c m (ltb-true _ _ t) ∙ sym (onward_keeps (section_step c.section c m) _ _) ∙ sym (ap (λ (r : Outcome (Option Step)). onward r (further m)) (cond-true _ _ _ t))
  | inr f ↦ outside_entry c m (omega (arith, ltb-false 0 c.elements f)) ∙ entries ∙ sym (ap (λ (r : Outcome (Option Step)). onward r (further m)) (cond-false _ _ _ f))
]
  where
    ended : c.entries ≡ 0 → entries_left c c.used m ≡ onward (need (not (ltb c.used (length m))) (Malformed c.used) (Ok None)) (further m)
    ended e =
        ap (λ (r : Outcome (Read (Keyed (List Triple)))). onward r (whole m)) (counted_none (entry_at (triples_under c.signer)) c.entries (record { last = c.last; fields = [] }) c.used (whole_of m) e)
        ∙ sym (onward_need (not (ltb c.used (length m))) _ _ _)

    entries : entries_left c c.used m ≡ onward (cond (ltb 0 c.entries) (some (entry_step c m)) (need (not (ltb c.used (length m))) (Malformed c.used) (Ok None))) (further m)
    entries = elim (cases_Bool (ltb 0 c.entries)) [
      | inl t ↦ entry_left c m (ltb-true _ _ t) ∙ sym (onward_keeps (entry_step c m) _ _) ∙ sym (ap (λ (r : Outcome (Option Step)). onward r (further m)) (cond-true _ _ _ t))
      | inr f ↦ ended (omega (arith, ltb-false 0 c.entries f)) ∙ sym (ap (λ (r : Outcome (Option Step)). onward r (further m)) (cond-false _ _ _ f))
    ]

pub left_step : (c : Cursor) (m : List ℕ) → left c m ≡ onward (step_from c m) (further m)
left_step c m = elim (cases_Bool (ltb 0 c.maps)) [
  | inl t ↦ map_left c m (ltb-true _ _ t) ∙ sym (onward_keeps (map_step c m) _ _) ∙ sym (ap (λ (r : Outcome (Option Step)). onward r (further m)) (cond-true _ _ _ t))
  | inr f ↦ outside_record c m (omega (arith, ltb-false 0 c.maps f)) ∙ elements_step c m ∙ sym (ap (λ (r : Outcome (Option Step)). onward r (further m)) (cond-false _ _ _ f))
]

-- what is left at the beginning are the triples of the message
pub left_begun : (signer : ℕ) (m : List ℕ) → triples_of signer m ≡ onward (begun signer m) (λ c. left c m)
left_begun signer m =
    onward_twice (map_at (whole_of m)) _ _
    ∙ onward_same (map_at (whole_of m)) _ _ (λ n.
    let c : Cursor = record { signer = signer; used = n.size; entries = n.value; last = None; section = References; elements = 0; environment = no_environment; maps = 0 } in
    onward_need (ltb 0 n.value) _ _ _
    ∙ need_same (ltb 0 n.value) _ _ _ (
    onward_keeps (counted_from (entry_at (triples_under signer)) n.value (record { last = None; fields = [] }) n.size (whole_of m)) _ _
    ∙ sym (outside_record c m refl ∙ outside_entry c m refl))
    ∙ sym (onward_need (ltb 0 n.value) _ _ _))
    ∙ sym (onward_twice (map_at (whole_of m)) _ _)
