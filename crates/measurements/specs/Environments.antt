use Rattle.std.specs.Prelude.{cond, Err, ◌==◌}
use Rattle.refusals.specs.declared.Refusal.TheVariants.{Unknown}
use Rattle.claims.specs.Environments.{no_environment, with_class, with_vendor, with_model, with_layer, with_index, with_instance}
use Rattle.claims.specs.declared.kinds.Environment.{Environment}
use Rattle.cbor.specs.Holders.{Under, map_by}
use Rattle.cbor.specs.Scalars.{Rule, stores, number_to, text_at, tagged_bytes}
use Rattle.measurements.specs.declared.kinds.InClass.{InClass}
use Rattle.measurements.specs.declared.kinds.InEnvironment.{InEnvironment}

abbrev pub in_class : Environment → InClass
in_class e = record { environment = e }

abbrev pub in_environment : Environment → InEnvironment
in_environment e = record { environment = e }

-- 0 identifier (tag 560, bytes), 1 vendor, 2 model (texts), 3 layer, 4 index
abbrev pub class_field : Under InClass
class_field s key at p =
    cond (key == 0) (stores (tagged_bytes 560 32 1 p) (λ x. in_class (with_class s.environment x)))
    (cond (key == 1) (stores (text_at 32 1 p) (λ x. in_class (with_vendor s.environment x)))
    (cond (key == 2) (stores (text_at 32 1 p) (λ x. in_class (with_model s.environment x)))
    (cond (key == 3) (stores (number_to 65535 p) (λ n. in_class (with_layer s.environment n)))
    (cond (key == 4) (stores (number_to 65535 p) (λ n. in_class (with_index s.environment n)))
    (Err (Unknown at))))))

-- a class map, which adds to an environment
abbrev pub class_map : Environment → Rule Environment
class_map e p = stores (map_by class_field (in_class e) p) (λ s. s.environment)

-- 0 class map, 1 instance (tag 550, bytes)
abbrev pub environment_field : Under InEnvironment
environment_field s key at p =
    cond (key == 0) (stores (class_map s.environment p) in_environment)
    (cond (key == 1) (stores (tagged_bytes 550 33 7 p) (λ x. in_environment (with_instance s.environment x)))
    (Err (Unknown at)))

abbrev pub environment_map : Rule Environment
environment_map p = stores (map_by environment_field (in_environment no_environment) p) (λ s. s.environment)
