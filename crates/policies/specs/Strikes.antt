use Rattle.std.specs.Prelude.{not, ◌&&◌}
use Rattle.authorities.specs.declared.kinds.Authorities.{Authorities}
use Rattle.authorities.specs.Sets.{in_set}
use Rattle.policies.specs.Uses.{Permitted}

-- what the layer below permits, where the authority is not struck
abbrev pub strike_permits : Permitted → Authorities → Permitted
strike_permits below struck a u c = below a u c && not (in_set struck a)
