use Rattle.std.specs.Prelude.{length, Option}
use Rattle.std.specs.Option.{option_map}
use Rattle.cbor.specs.Items.{Shape, unsigned, bytes, text, array, map, tag, truth, Front as First}
use Rattle.vectors.specs.declared.kinds.Expected.{Expected}
use Rattle.vectors.specs.declared.kinds.Expected.TheVariants.{Unsigned, Bytes, Text, Array, Map, Tag, Truth}

-- an item as the cases tell it
abbrev pub told : Shape → Expected
told (unsigned n) = Unsigned n
told (bytes p) = Bytes (length p.bytes)
told (text p) = Text (length p.bytes)
told (array n) = Array n
told (map n) = Map n
told (tag n) = Tag n
told (truth b) = Truth b

abbrev pub told_of : Option First → Option Expected
told_of first = option_map (λ f. told f.item) first
