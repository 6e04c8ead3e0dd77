use Rattle.std.specs.Prelude.{◌≡◌, ℕ, zero, suc, ◌+◌, ◌<◌, ◌≤◌, Bool, true, false, List, [], ◌∷◌, ◌++◌, length, drop, Some, None, Ok, Err, Option, refl}
use Rattle.std.proofs.Common.{sym, ap, subst, ◌∙◌, append_assoc, arith, add-zero}
use Rattle.std.specs.List.{AllByRecursion}
use Rattle.std.proofs.lemmas.List.{append-nil, length-append}
use Rattle.refusals.specs.Figures.{number}
use Rattle.refusals.specs.Reading.{Outcome, onward, keeps, need, or_refuse, above}
use Rattle.refusals.specs.declared.Refusal.{Refusal}
use Rattle.refusals.specs.declared.Refusal.TheVariants.{Malformed, Unknown, OutOfLimits}
use Rattle.claims.specs.Limits.{Holds, Within}
use Rattle.claims.specs.declared.kinds.Claim.{Claim}
use Rattle.evidence.specs.Readings.{Reading, KeepsLimits, RefusesAsReader}
use Rattle.spdm.specs.declared.kinds.Setup.{Setup}
use Rattle.spdm.specs.declared.kinds.Entry.{Entry}
use Rattle.spdm.specs.Blocks.{Block, block_of}
use Rattle.spdm.specs.Claims.{claim_of}
use Rattle.spdm.specs.Rows.{entry_of, row_of, reading}
use Rattle.spdm.specs.Layout.{Makes, Row, none, more}
use Rattle.spdm.specs.Laws.{Begins, Faulty, malformed, falling, outside, Stops, RowOf, ReadAsRows}
use Rattle.spdm.specs.Laid.{written_long, begins_found, begins_drop, begins_some, found_begins}
use Rattle.spdm.specs.Made.{makes_back, makes_forth, makes_within}
use Rattle.spdm.specs.Walks.{row_more, row_none}

-- what an entry tells of the bytes that it was read from

-- a good block: what it is, and what it makes
pub record Good (s : Setup) (last : Option ℕ) (m : List ℕ) (e : Entry) : Type 0 where
  pub block : Block
  pub begins : Begins m block
  pub rises : above last block.index ≡ true
  pub makes : Makes s block e.claim
  pub index : e.index ≡ block.index
  pub size : e.size ≡ 7 + length block.value

abbrev Told : Setup → Option ℕ → ℕ → List ℕ → Outcome Entry → Type 0
Told s last at m (Ok e) = Good s last m e
Told s last at m (Err e) = Faulty s last at m e

module _ (s : Setup) (last : Option ℕ) (at : ℕ) (m : List ℕ) (some : 0 < length m) where
  told_claim : (b : Block) → Begins m b → above last b.index ≡ true → (o : Option Claim) → claim_of s b ≡ o
      → Told s last at m (or_refuse o (OutOfLimits at) (λ c. Ok (record { index = b.index; size = 7 + length b.value; claim = c })))
  told_claim b g r None e = outside g r (λ c k. let f : ◌≡◌ {A = Option Claim} None (Some c) = sym e ∙ makes_forth s b c k in absurd (grind arith))
  told_claim b g r (Some c) e = record { block = b; begins = g; rises = r; makes = makes_back s b c e; index = refl; size = refl }

  told_index : (b : Block) → Begins m b → (t : Bool) → above last b.index ≡ t
      → Told s last at m (need t (Unknown at) (or_refuse (claim_of s b) (OutOfLimits at) (λ c. Ok (record { index = b.index; size = 7 + length b.value; claim = c }))))
  told_index b g true e = told_claim b g e (claim_of s b) refl
  told_index b g false e = falling g e

  told_block : (o : Option Block) → block_of m ≡ o
      → Told s last at m (or_refuse o (Malformed at) (λ b. need (above last b.index) (Unknown at)
      (or_refuse (claim_of s b) (OutOfLimits at) (λ c. Ok (record { index = b.index; size = 7 + length b.value; claim = c })))))
  told_block None e = malformed some (λ b g. let f : ◌≡◌ {A = Option Block} None (Some b) = sym e ∙ begins_found m b g in absurd (grind arith))
  told_block (Some b) e = told_index b (found_begins m b e) (above last b.index) refl

  pub entry_told : Told s last at m (entry_of s last at m)
  entry_told = told_block (block_of m) refl

-- an entry has no more bytes than there are
pub entry_fits : (s : Setup) (last : Option ℕ) (at : ℕ) (m : List ℕ) → 0 < length m → (e : Entry) → entry_of s last at m ≡ Ok e → e.size ≤ length m
entry_fits s last at m some e h =
    let P : Outcome Entry → Type 0 = λ r. Told s last at m r in
    let g : Good s last m e = subst P h (entry_told s last at m some) in
    omega (arith, g.size, written_long g.block g.begins.bytes g.begins.written, ap length g.begins.whole, length-append g.begins.bytes g.begins.rest)

-- the same the other way round
pub good_entry : (s : Setup) (last : Option ℕ) (at : ℕ) (m : List ℕ) (b : Block) (c : Claim) → Begins m b → above last b.index ≡ true → Makes s b c
    → entry_of s last at m ≡ Ok (record { index = b.index; size = 7 + length b.value; claim = c })
good_entry s last at m b c g r k = rw (begins_found m b g, r, makes_forth s b c k)

no_claim_lem : (s : Setup) (b : Block) → ((c : Claim) → Makes s b c → ⊥) → (o : Option Claim) → claim_of s b ≡ o → o ≡ None
no_claim_lem s b h None e = refl
no_claim_lem s b h (Some c) e = absurd (h c (makes_back s b c e))

no_block : (m : List ℕ) → ((b : Block) → Begins m b → ⊥) → (o : Option Block) → block_of m ≡ o → o ≡ None
no_block m h None e = refl
no_block m h (Some b) e = absurd (h b (found_begins m b e))

pub faulty_entry : (s : Setup) (last : Option ℕ) (at : ℕ) (m : List ℕ) (e : Refusal) → Faulty s last at m e → (entry_of s last at m ≡ Err e) × (0 < length m)
faulty_entry s last at m _ (malformed some h) = (rw (no_block m h (block_of m) refl), some)
faulty_entry s last at m _ (falling {b = b} g f) = (rw (begins_found m b g, f), begins_some m b g)
faulty_entry s last at m _ (outside {b = b} g r h) = (rw (begins_found m b g, r, no_claim_lem s b h (claim_of s b) refl), begins_some m b g)

-- what a row tells of the bytes that it was read from

abbrev RowTold : Setup → Option ℕ → ℕ → List ℕ → Reading → Type 0
RowTold s last at m (Ok cs) = (to : Option ℕ) × Row s last cs to m
RowTold s last at m (Err e) = Stops s last at m e

stops_here : (s : Setup) (last : Option ℕ) (at : ℕ) (m : List ℕ) (e : Refusal) → Faulty s last at m e → Stops s last at m e
stops_here s last at m e f =
    let P : ℕ → Type 0 = λ i. Faulty s last i m e in
    record { claims = []; to = last; good = []; rest = m; whole = refl; row = none; fault = subst P (sym (add-zero at)) f }

module _ (s : Setup) (last : Option ℕ) (at : ℕ) (m : List ℕ) (e : Entry) (g : Good s last m e) where
  rest_is : drop e.size m ≡ g.begins.rest
  rest_is = ap (λ (k : ℕ). drop k m) g.size ∙ begins_drop m g.block g.begins

  -- a good block before a row
  row_before : (cs : List Claim) (to : Option ℕ) (front : List ℕ) → Row s (Some e.index) cs to front
      → Row s last (e.claim ∷ cs) to (g.begins.bytes ++ front)
  row_before cs to front r =
      let P : ℕ → Type 0 = λ i. Row s (Some i) cs to front in
      more g.begins.written g.rises g.makes (subst P g.index r)

  behind : (r : Reading) → RowTold s (Some e.index) (at + e.size) (drop e.size m) r → RowTold s last at m (keeps r (λ cs. e.claim ∷ cs))
  behind (Ok cs) t =
      let P : List ℕ → Type 0 = λ l. Row s last (e.claim ∷ cs) t.0 l in
      (t.0, subst P (ap (λ (l : List ℕ). g.begins.bytes ++ l) rest_is ∙ sym g.begins.whole) (row_before cs t.0 (drop e.size m) t.1))
  behind (Err x) t =
      let long = written_long g.block g.begins.bytes g.begins.written in
      let i : at + e.size + length t.good ≡ at + length (g.begins.bytes ++ t.good) = omega (arith, g.size, long, length-append g.begins.bytes t.good) in
      let P : ℕ → Type 0 = λ k. Faulty s t.to k t.rest x in
      record {
        claims = e.claim ∷ t.claims;
        to = t.to;
        good = g.begins.bytes ++ t.good;
        rest = t.rest;
        whole = g.begins.whole ∙ ap (λ (l : List ℕ). g.begins.bytes ++ l) (sym rest_is ∙ t.whole) ∙ sym (append_assoc g.begins.bytes t.good t.rest);
        row = row_before t.claims t.to t.good t.row;
        fault = subst P i t.fault;
      }

  shorter : length (drop e.size m) < length m
  shorter = omega (arith, ap length rest_is, ap length g.begins.whole, length-append g.begins.bytes g.begins.rest, written_long g.block g.begins.bytes g.begins.written)

-- the blocks behind the first, by its entry
on_entry : (s : Setup) (n : ℕ) (last : Option ℕ) (at : ℕ) (m : List ℕ) → length m ≤ suc n
    → ((to : Option ℕ) (on : ℕ) (rest : List ℕ) → length rest ≤ n → RowTold s to on rest (row_of s n to on rest))
    → (o : Outcome Entry) → Told s last at m o
    → RowTold s last at m (onward o (λ e. keeps (row_of s n (Some e.index) (at + e.size) (drop e.size m)) (λ cs. e.claim ∷ cs)))
on_entry s n last at m h told (Err e) f = stops_here s last at m e f
on_entry s n last at m h told (Ok e) g =
    behind s last at m e g (row_of s n (Some e.index) (at + e.size) (drop e.size m))
    (told (Some e.index) (at + e.size) (drop e.size m) (omega (arith, shorter s last at m e g)))

pub row_told : (s : Setup) (n : ℕ) (last : Option ℕ) (at : ℕ) (m : List ℕ) → length m ≤ n → RowTold s last at m (row_of s n last at m)
row_told s zero last at [] h = (last, none)
row_told s zero last at (x ∷ xs) h = absurd (omega arith)
row_told s (suc n) last at [] h = (last, none)
row_told s (suc n) last at (x ∷ xs) h =
    let some : 0 < length (x ∷ xs) = omega arith in
    let P : Reading → Type 0 = λ r. RowTold s last at (x ∷ xs) r in
    subst P (sym (row_more s n last at (x ∷ xs) some)) (on_entry s n last at (x ∷ xs) h (row_told s n) (entry_of s last at (x ∷ xs)) (entry_told s last at (x ∷ xs) some))

-- the same the other way round: a row of good blocks is read, and then what stands behind it

keeps_none : (r : Reading) → r ≡ keeps r (λ ds. [] ++ ds)
keeps_none (Ok cs) = refl
keeps_none (Err e) = refl

keeps_front : (r : Reading) (c : Claim) (cs : List Claim) → keeps (keeps r (λ ds. cs ++ ds)) (λ ds. c ∷ ds) ≡ keeps r (λ ds. (c ∷ cs) ++ ds)
keeps_front (Ok ds) c cs = refl
keeps_front (Err e) c cs = refl

-- steps enough are left for what stands behind a row
pub record Goes (s : Setup) (n : ℕ) (last : Option ℕ) (at : ℕ) (m : List ℕ) (cs : List Claim) (to : Option ℕ) (on : ℕ) (rest : List ℕ) : Type 0 where
  pub steps : ℕ
  pub enough : length rest ≤ steps
  pub read : row_of s n last at m ≡ keeps (row_of s steps to on rest) (λ ds. cs ++ ds)

goes_none : (s : Setup) (n : ℕ) (last : Option ℕ) (at : ℕ) (m rest : List ℕ) → m ≡ rest → length m ≤ n → Goes s n last at m [] last (at + 0) rest
goes_none s n last at m rest e h = record {
  steps = n;
  enough = omega (arith, ap length e);
  read = rw (e, add-zero at) (keeps_none (row_of s n last at rest));
}

goes_more : (s : Setup) (n : ℕ) (last : Option ℕ) (at : ℕ) (m rest : List ℕ) (b : Block) (c : Claim) (cs : List Claim) (to : Option ℕ) (size : ℕ)
    → length m ≤ n → (g : Begins m b) → above last b.index ≡ true → Makes s b c
    → ((k : ℕ) → length g.rest ≤ k → Goes s k (Some b.index) (at + (7 + length b.value)) g.rest cs to (at + (7 + length b.value) + size) rest)
    → Goes s n last at m (c ∷ cs) to (at + (7 + length b.value) + size) rest
goes_more s zero last at m rest b c cs to size h g r k next = absurd (omega (arith, begins_some m b g))
goes_more s (suc n) last at m rest b c cs to size h g r k next =
    let long = written_long b g.bytes g.written in
    let w = next n (omega (arith, ap length g.whole, length-append g.bytes g.rest)) in
    let R : Reading = row_of s w.steps to (at + (7 + length b.value) + size) rest in
    record {
      steps = w.steps;
      enough = w.enough;
      read = row_more s n last at m (begins_some m b g) ∙ rw (good_entry s last at m b c g r k, begins_drop m b g, w.read) (keeps_front R c cs);
    }

pub row_goes : (s : Setup) (last to : Option ℕ) (cs : List Claim) (front : List ℕ) → Row s last cs to front
    → (rest : List ℕ) (n : ℕ) (at : ℕ) (m : List ℕ) → m ≡ front ++ rest → length m ≤ n → Goes s n last at m cs to (at + length front) rest
row_goes s last _ _ _ none rest n at m e h = goes_none s n last at m rest e h
row_goes s last to _ _ (more {b = b} {c = c} {cs = cs} {bs = bs} {m = front} w r k row) rest n at m e h =
    let long = written_long b bs w in
    let i : at + (7 + length b.value) + length front ≡ at + length (bs ++ front) = omega (arith, long, length-append bs front) in
    let g : Begins m b = record { bytes = bs; rest = front ++ rest; written = w; whole = e ∙ append_assoc bs front rest } in
    let P : ℕ → Type 0 = λ j. Goes s n last at m (c ∷ cs) to j rest in
    subst P i (goes_more s n last at m rest b c cs to (length front) h g r k
    (λ j l. row_goes s (Some b.index) to cs front row rest j (at + (7 + length b.value)) (front ++ rest) refl l))

row_read : (s : Setup) (m : List ℕ) (cs : List Claim) → RowOf s cs m → reading s m ≡ Ok cs
row_read s m cs r =
    let g = row_goes s None r.0 cs m r.1 [] (length m) 0 m (sym (append-nil m)) (omega arith) in
    g.read ∙ rw (row_none s g.steps r.0 (0 + length m) [] refl, append-nil cs)

stop_row : (s : Setup) (k : ℕ) (to : Option ℕ) (on : ℕ) (rest : List ℕ) (e : Refusal) → length rest ≤ k → Faulty s to on rest e → row_of s k to on rest ≡ Err e
stop_row s zero to on rest e h f = absurd (omega (arith, (faulty_entry s to on rest e f).1))
stop_row s (suc k) to on rest e h f =
    let p = faulty_entry s to on rest e f in
    row_more s k to on rest p.1 ∙ rw p.0

stop_read : (s : Setup) (m : List ℕ) (e : Refusal) → Stops s None 0 m e → reading s m ≡ Err e
stop_read s m e t =
    let g = row_goes s None t.to t.claims t.good t.row t.rest (length m) 0 m t.whole (omega arith) in
    g.read ∙ rw (stop_row s g.steps t.to (0 + length t.good) t.rest e g.enough t.fault)

pub reading_told : (s : Setup) (m : List ℕ) → RowTold s None 0 m (reading s m)
reading_told s m = row_told s (length m) None 0 m (omega arith)

-- the law of the reader
pub read_as_rows : (s : Setup) (m : List ℕ) → ReadAsRows s m
read_as_rows s m = record {
  read = λ cs e. (let P : Reading → Type 0 = λ r. RowTold s None 0 m r in subst P e (reading_told s m));
  written = row_read s m;
  stopped = λ x e. (let P : Reading → Type 0 = λ r. RowTold s None 0 m r in subst P e (reading_told s m));
  refused = stop_read s m;
}

-- what every format keeps to

row_within : (s : Setup) (last to : Option ℕ) (cs : List Claim) (m : List ℕ) → Holds 1 s.class → Row s last cs to m → AllByRecursion Within cs
row_within s last to _ _ holds none = tt
row_within s last to _ _ holds (more {b = b} {c = c} {cs = cs} {m = front} w r k row) = (makes_within s b c holds k, row_within s (Some b.index) to cs front holds row)

told_limits : (s : Setup) (m : List ℕ) → Holds 1 s.class → (r : Reading) → RowTold s None 0 m r → KeepsLimits r
told_limits s m holds (Ok cs) t = row_within s None t.0 cs m holds t.1
told_limits s m holds (Err e) t = tt

faulty_number : (s : Setup) (last : Option ℕ) (at : ℕ) (m : List ℕ) (e : Refusal) → Faulty s last at m e → (5 ≤ number e) × (number e ≤ 8)
faulty_number s last at m _ (malformed h f) = (omega arith, omega arith)
faulty_number s last at m _ (falling g f) = (omega arith, omega arith)
faulty_number s last at m _ (outside g r f) = (omega arith, omega arith)

told_refusals : (s : Setup) (m : List ℕ) (r : Reading) → RowTold s None 0 m r → RefusesAsReader r
told_refusals s m (Ok cs) t = tt
told_refusals s m (Err e) t = faulty_number s t.to (0 + length t.good) t.rest e t.fault

pub keeps_limits : (s : Setup) (m : List ℕ) → Holds 1 s.class → KeepsLimits (reading s m)
keeps_limits s m holds = told_limits s m holds (reading s m) (reading_told s m)

pub refuses_as_reader : (s : Setup) (m : List ℕ) → RefusesAsReader (reading s m)
refuses_as_reader s m = told_refusals s m (reading s m) (reading_told s m)
