use Rattle.std.proofs.Common.{◌≡◌, ℕ, ◌%◌, Bool, true, false, List, Some, Ok, Err, Option, Result, ◌≢◌, sym, refl, ap, ◌∙◌, arith}
use Rattle.std.specs.Option.{ok_or}
use Rattle.std.specs.Result.{result_ok}
use Rattle.std.proofs.lemmas.Bool.{cond-false, ne_eqb}
use Rattle.refusals.specs.Reading.{Outcome, keeps, need, above}
use Rattle.refusals.specs.declared.Refusal.{Refusal}
use Rattle.refusals.specs.declared.Refusal.TheVariants.{Unknown}
use Rattle.claims.specs.declared.kinds.Claim.{Claim}
use Rattle.parts.specs.Parts.{Piece}
use Rattle.der.specs.Items.{Front, field, item_of}
use Rattle.dice.specs.Fields.{tag_of, IsUnknown, IsTagged, formed, of_values, in_environment, field_says, field_at}
use Rattle.dice.specs.declared.kinds.Field.{Field}
use Rattle.dice.specs.declared.kinds.Field.TheVariants.{Vendor, Model, Version, Svn, Layer, Index, Digests, Flags, Raw, Class}
use Rattle.dice.specs.declared.kinds.Fields.{Fields}
use Rattle.dice.specs.declared.kinds.UnknownTag.{UnknownTag}

module _ (tag : ℕ) (h : IsUnknown tag) where
  ne : (f : Field) → (tag ≡ tag_of f) → ⊥
  ne f e = h f (sym e)

  -- asks no form
  pub unknown_formed : (c : List ℕ) → formed tag c ≡ true
  unknown_formed c =
      cond-false _ _ _ (ne_eqb tag 0x83 (ne Svn))
      ∙ (cond-false _ _ _ (ne_eqb tag 0x84 (ne Layer))
      ∙ (cond-false _ _ _ (ne_eqb tag 0x85 (ne Index))
      ∙ cond-false _ _ _ (ne_eqb tag 0x87 (ne Flags))))

  -- and says nothing
  pub unknown_says : (c : Claim) (at : ℕ) (p : Piece) → field_says c tag at p ≡ Err (Unknown at)
  unknown_says c at p =
      cond-false _ _ _ (none_of_values)
      ∙ ap (λ r. keeps r (in_environment c))
      (cond-false _ _ _ (ne_eqb tag 0x80 (ne Vendor))
      ∙ (cond-false _ _ _ (ne_eqb tag 0x81 (ne Model))
      ∙ (cond-false _ _ _ (ne_eqb tag 0x84 (ne Layer))
      ∙ (cond-false _ _ _ (ne_eqb tag 0x85 (ne Index))
      ∙ cond-false _ _ _ (ne_eqb tag 0x89 (ne Class))))))
    where
      none_of_values : of_values tag ≡ false
      none_of_values = rw (
        ne_eqb tag 0x82 (ne Version),
        ne_eqb tag 0x83 (ne Svn),
        ne_eqb tag 0xA6 (ne Digests),
        ne_eqb tag 0x87 (ne Flags),
        ne_eqb tag 0x88 (ne Raw),
      ) refl

either : {A : Type 0} (b : Bool) (e : Refusal) (r : Outcome A) → r ≡ Err e → need b e r ≡ Err e
either true e r h = h
either false e r h = refl

-- a field of an unknown tag is refused
pub unknown_field : (s : Fields) (p : Piece) (f : Front) (tag : ℕ) (q : Piece) → item_of p ≡ Some f → f.item ≡ field tag q → IsUnknown tag
    → field_at s p ≡ Err (Unknown p.at)
unknown_field s p f tag q e i h =
    rw (e, i, unknown_formed tag h q.bytes)
    (either (above s.last (tag % 32)) (Unknown p.at) _ (rw (unknown_says tag h s.claim p.at q) refl))

-- what a conversion that found a field, or none, tells of the tag
pub tag_found : (tag : ℕ) (r : Result Field UnknownTag) (o : Option Field) (e : Refusal) (f : Field) → IsTagged tag r → o ≡ result_ok r → Ok f ≡ ok_or o e → tag_of f ≡ tag
tag_found tag (Ok g) o e f h k l = let same : f ≡ g = grind arith in ap tag_of same ∙ h
tag_found tag (Err x) o e f h k l = absurd (grind arith)

pub tag_lost : (tag : ℕ) (r : Result Field UnknownTag) (o : Option Field) (e x : Refusal) → IsTagged tag r → o ≡ result_ok r → Err x ≡ ok_or o e → IsUnknown tag
tag_lost tag (Ok g) o e x h k l = absurd (grind arith)
tag_lost tag (Err y) o e x h k l = h.1
