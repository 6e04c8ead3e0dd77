use Rattle.std.specs.Prelude.{◌+◌, Bool, cond, List, take, replicate, nat_lt, slice_set}
use Rattle.records.specs.declared.kinds.Few.{Few}

-- none yet
abbrev pub few_of : {T : Type 0} → T → Few T
few_of filling = record { count = 0; places = replicate 4 filling }

-- there is room for one more
abbrev pub room : {T : Type 0} → Few T → Bool
room s = nat_lt s.count 4

-- one more at the end, where there is room
abbrev pub joined : {T : Type 0} → Few T → T → Few T
joined s x = cond (room s) (record { count = s.count + 1; places = slice_set s.places s.count x }) s

-- the members, in their order
abbrev pub members : {T : Type 0} → Few T → List T
members s = take s.count s.places
