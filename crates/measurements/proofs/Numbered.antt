use Rattle.std.proofs.Common.{◌≡◌, ℕ, ◌+◌, ◌<◌, ◌≤◌, Bool, true, false, ◌&&◌, eqb, leb, List, ◌++◌, length, Some, Ok, Err, Option, sym, refl, ap, ◌∙◌, subst, inl, inr, arith}
use Rattle.std.proofs.lemmas.Bool.{and_parts, or_cases, eqb-true, le-leb, leb-true}
use Rattle.std.proofs.lemmas.Bool.Decides.{nat_tests}
use Rattle.refusals.specs.Reading.{Outcome, need, or_refuse}
use Rattle.refusals.specs.declared.Refusal.TheVariants.{Malformed, OutOfLimits}
use Rattle.refusals.proofs.Outcomes.{ok_same, some_same, or_refuse_back}
use Rattle.parts.specs.Parts.{Piece, after}
use Rattle.parts.specs.declared.kinds.Read.{Read}
use Rattle.cbor.specs.Encodes.{Headed, Number, number, tagged, Then, both, Stored, stored, Such}
use Rattle.cbor.specs.Items.{Shape, unsigned, bytes, text, array, map, tag, truth, Front, item_of, is_unsigned, is_tag}
use Rattle.cbor.specs.Reads.{Reads}
use Rattle.cbor.specs.Scalars.{item_as, tag_at}
use Rattle.cbor.proofs.Chosen.{ItemTaken, in_tag_taken}
use Rattle.cbor.proofs.Fields.{Back, stores_back}
use Rattle.cbor.proofs.Joins.{begins_as, reads_such_stores, first_written}
use Rattle.cbor.proofs.Rules.{reads_number, reads_number_to, reads_tag}
use Rattle.cbor.proofs.Tags.{reads_in_tag, sizes_such}
use Rattle.measurements.specs.Layout.{SvnOf, bare, exact, least}
use Rattle.measurements.specs.Svns.{most_svn, svn_tag, svn_under, tagged_svn, svn_by, svn_at}
use Rattle.measurements.specs.declared.kinds.Svn.{Svn}
use Rattle.measurements.specs.declared.kinds.Svn.TheVariants.{Exact, Minimum}
use Rattle.measurements.proofs.Written.{from}

-- an svn is read exactly as it is written

-- the number behind a tag
abbrev numbered : ℕ → Piece → ℕ → ℕ → Outcome (Read Svn)
numbered t p n size = need (leb n most_svn) (OutOfLimits p.at) (Ok (record { value = svn_under t n; size = size }))

abbrev UnderTag : Bool → Svn → List ℕ → Type 0
UnderTag minimum = Then (Such (Headed 6) (svn_tag minimum)) (λ t. Stored (Such (Headed 0) (λ n. leb n most_svn)) (svn_under t))

tagged_reads : (minimum : Bool) → Reads (tagged_svn minimum) (UnderTag minimum)
tagged_reads minimum =
    reads_in_tag (svn_tag minimum) (λ p. Malformed p.at) is_unsigned numbered (λ t p n. sizes_such (leb n most_svn) (OutOfLimits p.at) (svn_under t n)) (λ t. Stored (Such (Headed 0) (λ n. leb n most_svn)) (svn_under t))
    (λ t p. reads_such_stores reads_number (λ n. leb n most_svn) (svn_under t) (λ _. OutOfLimits p.at))

-- a tag and the number behind it are one item

module _ (minimum : Bool) (p : Piece) (t n : Read ℕ) (found : Ok t ≡ tag_at p) (passes : svn_tag minimum t.value ≡ true) (fits : t.size ≤ length p.bytes) (taken : ItemTaken is_unsigned (after t.size p) n.value n.size) where
  tagged_taken : tagged_svn minimum p ≡ numbered t.value p n.value (t.size + n.size)
  tagged_taken = in_tag_taken (svn_tag minimum) (λ q. Malformed q.at) is_unsigned numbered p t n.value n.size found passes fits taken

  pub tagged_out : most_svn < n.value → Err (OutOfLimits p.at) ≡ tagged_svn minimum p
  tagged_out out = sym (tagged_taken ∙ grind (arith, nat_tests))

  pub tagged_whole : (x : Read Svn) → n.value ≤ most_svn → x.value ≡ svn_under t.value n.value → x.size ≡ t.size + n.size → Ok x ≡ tagged_svn minimum p
  tagged_whole x within value size = sym (tagged_taken ∙ grind (arith, nat_tests))

-- the tags by their numbers

under_tag : (minimum : Bool) (t n : ℕ) (a b : List ℕ) → Headed 6 t a → svn_tag minimum t ≡ true → Number most_svn n b → SvnOf minimum (svn_under t n) (a ++ b)
under_tag minimum t n a b h passes k =
    let P : ℕ → Type 0 = λ u. Headed 6 u a → SvnOf minimum (svn_under u n) (a ++ b) in
    elim (or_cases (eqb t 552) (minimum && eqb t 553) passes) [
      | inl e ↦ subst P (sym (eqb-true t 552 e)) (λ g. exact (tagged g k)) h
      | inr e ↦
          let q = and_parts minimum (eqb t 553) e in
          subst P (sym (eqb-true t 553 q.1)) (λ g. least q.0 (tagged g k)) h
    ]

tag_is : (minimum : Bool) (x : Svn) (bs : List ℕ) → UnderTag minimum x bs → SvnOf minimum x bs
tag_is minimum x _ (both {x = t} {a = a} {b = b} h k) = go x b k
  where
    go : (y : Svn) (c : List ℕ) → Stored (Such (Headed 0) (λ n. leb n most_svn)) (svn_under t) y c → SvnOf minimum y (a ++ c)
    go _ c (stored {x = n} l) = under_tag minimum t n a c h.0 h.1 (number l.0 (leb-true n most_svn l.1))

-- an svn by its first item

unsigned_is : (s : Shape) (n : ℕ) → is_unsigned s ≡ Some n → s ≡ unsigned n
unsigned_is (unsigned x) n e = ap unsigned (some_same x n e)
unsigned_is (bytes x) n e = absurd (grind arith)
unsigned_is (text x) n e = absurd (grind arith)
unsigned_is (array x) n e = absurd (grind arith)
unsigned_is (map x) n e = absurd (grind arith)
unsigned_is (tag x) n e = absurd (grind arith)
unsigned_is (truth x) n e = absurd (grind arith)

a_tag_is : (s : Shape) (n : ℕ) → is_tag s ≡ Some n → s ≡ tag n
a_tag_is (tag x) n e = ap tag (some_same x n e)
a_tag_is (unsigned x) n e = absurd (grind arith)
a_tag_is (bytes x) n e = absurd (grind arith)
a_tag_is (text x) n e = absurd (grind arith)
a_tag_is (array x) n e = absurd (grind arith)
a_tag_is (map x) n e = absurd (grind arith)
a_tag_is (truth x) n e = absurd (grind arith)

-- an svn that begins with an item of a kind is read by the rule for that kind
kind_is : (minimum : Bool) (kind : Shape → Option ℕ) (make : ℕ → Shape) → ((s : Shape) (n : ℕ) → kind s ≡ Some n → s ≡ make n)
    → (p : Piece) (x : Read ℕ) → item_as kind p ≡ Ok x → svn_at minimum p ≡ svn_by minimum (make x.value) p
kind_is minimum kind make is p x e =
    let a = or_refuse_back (item_of p) _ _ x e in
    let b = or_refuse_back (kind a.0.item) _ _ x a.2 in
    let v : b.0 ≡ x.value = ap (λ (z : Read ℕ). z.value) (ok_same _ x b.2) in
    ap (λ (o : Option Front). or_refuse o (Malformed p.at) (λ f. svn_by minimum f.item p)) a.1
    ∙ ap (λ (s : Shape). svn_by minimum s p) (is a.0.item b.0 b.1 ∙ ap make v)

may_be_least : (b : Bool) → b ≡ true → svn_tag b 553 ≡ true
may_be_least true e = refl
may_be_least false e = absurd (grind arith)

svn_written : (minimum : Bool) (x : Svn) (bs rest : List ℕ) (at : ℕ) → SvnOf minimum x bs → svn_at minimum (from at bs rest) ≡ Ok (record { value = x; size = length bs })
svn_written minimum x bs rest at (bare {n = n} (number h below)) =
    kind_is minimum is_unsigned unsigned unsigned_is (from at bs rest) _ (reads_number.written n bs rest at h)
    ∙ rw ((reads_number_to most_svn).written n bs rest at (number h below))
svn_written minimum x _ rest at (exact {n = n} (tagged {h = h} {bs = b} t (number k below))) =
    kind_is minimum is_tag tag a_tag_is (from at (h ++ b) rest) _ (first_written reads_tag 552 h b rest at t)
    ∙ (tagged_reads minimum).written (Exact n) (h ++ b) rest at (both (t, refl) (stored (k, le-leb n most_svn below)))
svn_written minimum x _ rest at (least {n = n} may (tagged {h = h} {bs = b} t (number k below))) =
    kind_is minimum is_tag tag a_tag_is (from at (h ++ b) rest) _ (first_written reads_tag 553 h b rest at t)
    ∙ (tagged_reads minimum).written (Minimum n) (h ++ b) rest at (both (t, may_be_least minimum may) (stored (k, le-leb n most_svn below)))

svn_by_lem : (minimum : Bool) (s : Shape) → Back (svn_by minimum s) (SvnOf minimum)
svn_by_lem minimum (unsigned n) p x e = stores_back (reads_number_to most_svn) Exact (λ y bs k. bare k) p x e
svn_by_lem minimum (tag t) p x e = begins_as (UnderTag minimum) (SvnOf minimum) p x x (tag_is minimum x.value) refl ((tagged_reads minimum).read p x e)
svn_by_lem minimum (bytes y) p x e = absurd (grind arith)
svn_by_lem minimum (text y) p x e = absurd (grind arith)
svn_by_lem minimum (array n) p x e = absurd (grind arith)
svn_by_lem minimum (map n) p x e = absurd (grind arith)
svn_by_lem minimum (truth b) p x e = absurd (grind arith)

pub svn_reads : (minimum : Bool) → Reads (svn_at minimum) (SvnOf minimum)
svn_reads minimum = record {
  written = svn_written minimum;
  read = λ p x e. let a = or_refuse_back (item_of p) _ _ x e in svn_by_lem minimum a.0.item p x a.2;
}
