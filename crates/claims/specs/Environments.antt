use Rattle.std.specs.Prelude.{ℕ, Some, None}
use Rattle.claims.specs.declared.kinds.Bytes.{Bytes}
use Rattle.claims.specs.declared.kinds.Environment.{Environment}

abbrev pub no_environment : Environment
no_environment = record { class = None; vendor = None; model = None; layer = None; index = None; instance = None }

-- an environment with one field more

abbrev pub with_class : Environment → Bytes 32 → Environment
with_class s x = record { class = Some x; vendor = s.vendor; model = s.model; layer = s.layer; index = s.index; instance = s.instance }

abbrev pub with_vendor : Environment → Bytes 32 → Environment
with_vendor s x = record { class = s.class; vendor = Some x; model = s.model; layer = s.layer; index = s.index; instance = s.instance }

abbrev pub with_model : Environment → Bytes 32 → Environment
with_model s x = record { class = s.class; vendor = s.vendor; model = Some x; layer = s.layer; index = s.index; instance = s.instance }

abbrev pub with_layer : Environment → ℕ → Environment
with_layer s x = record { class = s.class; vendor = s.vendor; model = s.model; layer = Some x; index = s.index; instance = s.instance }

abbrev pub with_index : Environment → ℕ → Environment
with_index s x = record { class = s.class; vendor = s.vendor; model = s.model; layer = s.layer; index = Some x; instance = s.instance }

abbrev pub with_instance : Environment → Bytes 33 → Environment
with_instance s x = record { class = s.class; vendor = s.vendor; model = s.model; layer = s.layer; index = s.index; instance = Some x }
