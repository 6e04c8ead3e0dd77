use Rattle.std.specs.Prelude.{ℕ, ◌^◌, ◌<◌, Bool, true, false, cond, ◌&&◌, ◌||◌, List, [], ◌∷◌, Some, None, Ok, Err, codes, decimal, Option, ◌==◌}
use Rattle.std.specs.Option.{ok_or}
use Rattle.std.specs.List.{AllByRecursion}
use Rattle.std.specs.Str.{bytes_eq}
use Rattle.script.specs.Complaints.{Heard, then}
use Rattle.script.specs.Hex.{hex_bytes, hex_text}
use Rattle.script.specs.Numbers.{number_of}
use Rattle.script.specs.Words.{words_of, spaced}
use Rattle.script.specs.declared.complaints.Complaint.TheVariants.{UnknownCommand, MissingWord, ExtraWord, BadHex, BadNumber}

-- what a line can ask for
pub data Request : Type 0 where
  -- the class, the algorithm and the message
  read_spdm : List ℕ → ℕ → List ℕ → Request
  -- the message
  read_dice : List ℕ → Request

-- The complaint is the first that is found: the first two words are those of no command; then, word by word from the left, a word is
-- missing or cannot be read; then there is a word too many.

-- the next word, with those after it
abbrev pub word_from : List (List ℕ) → Heard (List ℕ × List (List ℕ))
word_from [] = Err MissingWord
word_from (w ∷ ws) = Ok (w, ws)

-- the bytes of the next word
abbrev pub hex_from : List (List ℕ) → Heard (List ℕ × List (List ℕ))
hex_from ws = then (word_from ws) (λ p. then (ok_or (hex_bytes p.0) BadHex) (λ bs. Ok (bs, p.1)))

-- the number of the next word
abbrev pub number_from : List (List ℕ) → Heard (ℕ × List (List ℕ))
number_from ws = then (word_from ws) (λ p. then (ok_or (number_of p.0) BadNumber) (λ n. Ok (n, p.1)))

-- no word is left
abbrev pub end_from : List (List ℕ) → Heard (Unit {0})
end_from [] = Ok tt
end_from (w ∷ ws) = Err ExtraWord

-- the request, where no word is left
abbrev pub ended : List (List ℕ) → Request → Heard Request
ended ws asked = then (end_from ws) (λ _. Ok asked)

-- CLASS ALGORITHM MESSAGE
abbrev pub read_spdm_from : List (List ℕ) → Heard Request
read_spdm_from ws =
    then (hex_from ws) (λ class.
    then (number_from class.1) (λ algorithm.
    then (hex_from algorithm.1) (λ message.
    ended message.1 (read_spdm class.0 algorithm.0 message.0))))

-- MESSAGE
abbrev pub read_dice_from : List (List ℕ) → Heard Request
read_dice_from ws = then (hex_from ws) (λ message. ended message.1 (read_dice message.0))

-- a `read` command: its second word names the format
abbrev pub read_from : List ℕ → List (List ℕ) → Heard Request
read_from noun ws =
    cond (bytes_eq noun (codes "spdm")) (read_spdm_from ws)
    (cond (bytes_eq noun (codes "dice")) (read_dice_from ws)
    (Err UnknownCommand))

-- the first two words name the command
abbrev pub command_from : List (List ℕ) → Heard Request
command_from [] = Err UnknownCommand
command_from (verb ∷ []) = Err UnknownCommand
command_from (verb ∷ noun ∷ ws) = cond (bytes_eq verb (codes "read")) (read_from noun ws) (Err UnknownCommand)

-- nothing but spaces
abbrev pub blank : List ℕ → Bool
blank [] = true
blank (c ∷ cs) = c == 32 && blank cs

-- a line that begins with `#`
abbrev pub remark : List ℕ → Bool
remark [] = false
remark (c ∷ cs) = c == 35

-- a line that says nothing
abbrev pub skipped : List ℕ → Bool
skipped line = remark line || blank line

-- what a line asks for, if anything
abbrev pub command_of : List ℕ → Heard (Option Request)
command_of line = cond (skipped line) (Ok None) (then (command_from (words_of line)) (λ asked. Ok (Some asked)))

-- the line of a request
abbrev pub line_of : Request → List ℕ
line_of (read_spdm class algorithm message) =
    spaced (codes "read" ∷ codes "spdm" ∷ hex_text class ∷ decimal algorithm ∷ hex_text message ∷ [])
line_of (read_dice message) = spaced (codes "read" ∷ codes "dice" ∷ hex_text message ∷ [])

-- a request of bytes and of a number of 64 bits
abbrev pub Sayable : Request → Type 0
Sayable (read_spdm class algorithm message) = AllByRecursion (λ b. b < 256) class × (algorithm < 2 ^ 64) × AllByRecursion (λ b. b < 256) message
Sayable (read_dice message) = AllByRecursion (λ b. b < 256) message
