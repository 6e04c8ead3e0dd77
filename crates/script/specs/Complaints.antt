use Rattle.std.specs.Prelude.{◌≡◌, ℕ, ◌⊎◌, List, Ok, Err, codes, Result}
use Rattle.script.specs.declared.complaints.Complaint.{Complaint}
use Rattle.script.specs.declared.complaints.Complaint.TheVariants.{UnknownCommand, MissingWord, ExtraWord, BadHex, BadNumber, OutOfMemory}

-- the words of each complaint
abbrev pub complaint_text : Complaint → List ℕ
complaint_text UnknownCommand = codes "not a command"
complaint_text MissingWord = codes "a word is missing"
complaint_text ExtraWord = codes "a word too many"
complaint_text BadHex = codes "not hex"
complaint_text BadNumber = codes "not a decimal number of up to 64 bits"
complaint_text OutOfMemory = codes "out of memory"

-- what was understood, or one complaint
abbrev pub Heard : Type 0 → Type 0
Heard A = Result A Complaint

-- go on with what was understood
abbrev pub then : {A B : Type 0} → Heard A → (A → Heard B) → Heard B
then (Ok x) f = f x
then (Err e) f = Err e

-- the answer r, seen as a value of A, is the one that is heard; only want of memory is left open
abbrev pub Tells : {X A : Type 0} → (X → A) → Heard X → Heard A → Type 0
Tells view (Ok x) heard = heard ≡ Ok (view x)
Tells view (Err e) heard = (e ≡ OutOfMemory) ⊎ (heard ≡ Err e)
