use Rattle.std.specs.Prelude.{ℕ, Bool, cond, ◌&&◌, ◌||◌, Ok, Err, ◌==◌, nat_le}
use Rattle.refusals.specs.Reading.{onward, need, or_refuse}
use Rattle.refusals.specs.declared.Refusal.TheVariants.{Malformed, OutOfLimits}
use Rattle.parts.specs.Parts.{after, before}
use Rattle.cbor.specs.Items.{Shape, unsigned, bytes, text, array, map, tag, truth, item_of, is_unsigned}
use Rattle.cbor.specs.Scalars.{Rule, stores, number_to, tag_at}
use Rattle.measurements.specs.declared.kinds.Svn.{Svn}
use Rattle.measurements.specs.declared.kinds.Svn.TheVariants.{Exact, Minimum}

abbrev pub most_svn : ℕ
most_svn = 4294967295

-- 552 is the tag of an svn, 553 that of a minimum, where one may stand
abbrev pub svn_tag : Bool → ℕ → Bool
svn_tag minimum t = t == 552 || (minimum && t == 553)

abbrev pub svn_under : ℕ → ℕ → Svn
svn_under t n = cond (t == 553) (Minimum n) (Exact n)

-- a tag and its number: one item, whose place is that of the tag
abbrev pub tagged_svn : Bool → Rule Svn
tagged_svn minimum p =
    onward (tag_at p) (λ t.
    need (svn_tag minimum t.value) (Malformed p.at)
    (or_refuse (item_of (after t.size p)) (Malformed p.at) (λ f.
    or_refuse (is_unsigned f.item) (Malformed p.at) (λ n.
    need (nat_le n most_svn) (OutOfLimits p.at)
    (Ok (record { value = svn_under t.value n; size = before p f.rest }))))))

-- an svn by the kind of its first item: a number, or a tag
abbrev pub svn_by : Bool → Shape → Rule Svn
svn_by minimum (unsigned n) p = stores (number_to most_svn p) Exact
svn_by minimum (tag t) p = tagged_svn minimum p
svn_by minimum (bytes x) p = Err (Malformed p.at)
svn_by minimum (text x) p = Err (Malformed p.at)
svn_by minimum (array n) p = Err (Malformed p.at)
svn_by minimum (map n) p = Err (Malformed p.at)
svn_by minimum (truth b) p = Err (Malformed p.at)

abbrev pub svn_at : Bool → Rule Svn
svn_at minimum p = or_refuse (item_of p) (Malformed p.at) (λ f. svn_by minimum f.item p)
