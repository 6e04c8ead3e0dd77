use Rattle.std.proofs.Common.{◌≡◌, ℕ, ◌<◌, Bool, ◌&&◌, eqb, List, [], ◌∷◌, length, Err, refl, ap, arith}
use Rattle.std.specs.List.{list_all}
use Rattle.script.specs.Commands.{end_from, blank}
use Rattle.script.specs.Words.{words_of}
use Rattle.script.specs.declared.complaints.Complaint.TheVariants.{ExtraWord}
use Rattle.script.proofs.Pieces.{words_some}

end_words : (ws : List (List ℕ)) → 0 < length ws → end_from ws ≡ Err ExtraWord
end_words [] h = absurd (omega arith)
end_words (w ∷ ws) h = refl

-- a line that is left has a word
pub end_more : (l : List ℕ) → end_from (words_of l) ≡ Err ExtraWord
end_more l = end_words (words_of l) (words_some l)

-- a line is blank where each byte is a space
pub blank_each : (l : List ℕ) → list_all (λ c. eqb c 32) l ≡ blank l
blank_each [] = refl
blank_each (c ∷ cs) = ap (λ (b : Bool). eqb c 32 && b) (blank_each cs)
