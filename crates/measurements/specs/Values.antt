use Rattle.std.specs.Prelude.{Bool, cond, Some, None, Ok, Err, ◌==◌}
use Rattle.refusals.specs.Reading.{onward, or_refuse}
use Rattle.refusals.specs.declared.Refusal.TheVariants.{Unknown, Missing}
use Rattle.claims.specs.Values.{with_version, with_svn, with_digests, with_flags, with_raw}
use Rattle.claims.specs.declared.kinds.Bytes.{Bytes}
use Rattle.claims.specs.declared.kinds.Values.{Values}
use Rattle.conditions.specs.Wanted.{with_values, with_minimum}
use Rattle.conditions.specs.declared.kinds.Wanted.{Wanted}
use Rattle.cbor.specs.Holders.{Under, map_by}
use Rattle.cbor.specs.Scalars.{Rule, stores, text_at, tagged_bytes}
use Rattle.measurements.specs.Digests.{digest_array}
use Rattle.measurements.specs.Flags.{flag_map}
use Rattle.measurements.specs.Svns.{svn_at}
use Rattle.measurements.specs.declared.kinds.InValues.{InValues}
use Rattle.measurements.specs.declared.kinds.InVersion.{InVersion}
use Rattle.measurements.specs.declared.kinds.Svn.{Svn}
use Rattle.measurements.specs.declared.kinds.Svn.TheVariants.{Exact, Minimum}

-- a version map: 0 the version, a text
abbrev pub version_field : Under InVersion
version_field s key at p = cond (key == 0) (stores (text_at 32 1 p) (λ x. record { text = Some x })) (Err (Unknown at))

abbrev pub version_map : Rule (Bytes 32)
version_map p =
    onward (map_by version_field (record { text = None }) p) (λ r.
    or_refuse r.value.text (Missing p.at) (λ x.
    Ok (record { value = x; size = r.size })))

-- values with one more, among what is wanted
abbrev pub in_values : InValues → Wanted → InValues
in_values s w = record { minimum = s.minimum; wanted = w }

abbrev pub put : InValues → (Values → Values) → InValues
put s f = in_values s (with_values s.wanted (f s.wanted.values))

abbrev pub put_svn : InValues → Svn → InValues
put_svn s (Exact n) = put s (λ v. with_svn v n)
put_svn s (Minimum n) = in_values s (with_minimum s.wanted n)

-- 0 version, 1 svn, 2 digests, 3 flags, 4 raw value (tag 560, bytes)
abbrev pub values_field : Under InValues
values_field s key at p =
    cond (key == 0) (stores (version_map p) (λ x. put s (λ v. with_version v x)))
    (cond (key == 1) (stores (svn_at s.minimum p) (put_svn s))
    (cond (key == 2) (stores (digest_array p) (λ x. put s (λ v. with_digests v x)))
    (cond (key == 3) (stores (flag_map p) (λ x. put s (λ v. with_flags v x)))
    (cond (key == 4) (stores (tagged_bytes 560 64 1 p) (λ x. put s (λ v. with_raw v x)))
    (Err (Unknown at))))))

-- a map of values, which adds to what is wanted; a minimum for the svn may stand in it or not
abbrev pub values_map : Bool → Wanted → Rule Wanted
values_map minimum w p = stores (map_by values_field (record { minimum = minimum; wanted = w }) p) (λ s. s.wanted)
