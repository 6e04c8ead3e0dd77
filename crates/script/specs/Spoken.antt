use Rattle.std.specs.Prelude.{vec_items}
use Rattle.script.specs.Commands.{Request, read_spdm, read_dice}
use Rattle.script.specs.declared.kinds.Command.{Command}
use Rattle.script.specs.declared.kinds.Command.TheVariants.{ReadSpdm, ReadDice}

-- what a command asks for
abbrev pub spoken : Command → Request
spoken (ReadSpdm class algorithm message) = read_spdm (vec_items class) algorithm (vec_items message)
spoken (ReadDice message) = read_dice (vec_items message)
