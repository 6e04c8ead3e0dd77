use Rattle.std.proofs.Common.{◌≡◌, ◌*◌, take}
use Rattle.std.specs.List.{flat_map}
use Rattle.std.specs.Str.{IsUtf8}
use Rattle.script.specs.Hex.{hex_pair}
use Rattle.script.proofs.hex.put_digits.Given as goal

abbrev pub invariant-loop-i : goal.invariant-loop-i
invariant-loop-i l = record {
  digits : take (2 * l.i) l.buffer ≡ flat_map hex_pair (take l.i l.bytes);
  utf8 : IsUtf8 (take (2 * l.i) l.buffer);
}
