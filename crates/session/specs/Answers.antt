use Rattle.std.specs.Prelude.{ℕ, List, Ok, Option}
use Rattle.std.specs.Option.{option_map}
use Rattle.refusals.specs.Reading.{onward}
use Rattle.script.specs.Commands.{Request, read_spdm, read_dice, command_of}
use Rattle.script.specs.Complaints.{Heard, then}
use Rattle.dice.specs.Messages.{reading as bootRecord}
use Rattle.spdm.specs.Rows.{reading}
use Rattle.spdm.specs.Setups.{setup_of}
use Rattle.session.specs.Readings.{heard_by, reading_text}

-- the answer to a request. A set-up that is refused is refused before the message is looked at
abbrev pub answer_of : Request → List ℕ
answer_of (read_spdm class algorithm message) = reading_text (onward (setup_of class algorithm) (λ s. heard_by (reading s) message))
answer_of (read_dice message) = reading_text (heard_by bootRecord message)

-- the answer to a line, if it asks for anything
abbrev pub line_answer : List ℕ → Heard (Option (List ℕ))
line_answer line = then (command_of line) (λ asked. Ok (option_map answer_of asked))
