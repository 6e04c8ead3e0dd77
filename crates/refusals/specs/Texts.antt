use Rattle.std.specs.Prelude.{ℕ, List, ◌++◌, codes, decimal}
use Rattle.refusals.specs.Figures.{number, layer, place}
use Rattle.refusals.specs.declared.Refusal.{Refusal}
use Rattle.refusals.specs.declared.Layer.{Layer}
use Rattle.refusals.specs.declared.Layer.TheVariants.{Caller, Item, Record, Table}

-- the name of a layer
abbrev pub layer_text : Layer → List ℕ
layer_text Caller = codes "caller"
layer_text Item = codes "item"
layer_text Record = codes "record"
layer_text Table = codes "table"

-- `refused: NUMBER LAYER at PLACE`
abbrev pub refusal_text : Refusal → List ℕ
refusal_text r = codes "refused: " ++ (decimal (number r) ++ (codes " " ++ (layer_text (layer r) ++ (codes " at " ++ decimal (place r)))))
