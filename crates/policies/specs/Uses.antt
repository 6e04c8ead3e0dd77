use Rattle.std.specs.Prelude.{ℕ, Bool, List, [], ◌==◌}
use Rattle.std.specs.Option.{option_map, unwrap_or}
use Rattle.claims.specs.Bytes.{content}
use Rattle.claims.specs.declared.kinds.Environment.{Environment}
use Rattle.policies.specs.declared.kinds.Question.{Question}
use Rattle.policies.specs.declared.kinds.Use.{Use}
use Rattle.policies.specs.declared.kinds.Use.TheVariants.{Evidence, Reference, Endorsement}

-- the meaning of a policy, as a set: which authority may sign for which use where the class identifier is which
abbrev pub Permitted : Type 0
Permitted = ℕ → Use → List ℕ → Bool

-- what a policy says to a question
abbrev pub answer_to : Question → Permitted → Bool
answer_to q p = p q.authority q.usage q.class.now

abbrev pub number_of : Use → ℕ
number_of Evidence = 0
number_of Reference = 1
number_of Endorsement = 2

abbrev pub same_use : Use → Use → Bool
same_use u v = number_of u == number_of v

-- the class identifier of an environment: a missing one counts as no bytes
abbrev pub class_of : Environment → List ℕ
class_of e = unwrap_or (option_map content e.class) []
