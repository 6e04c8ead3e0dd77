use Rattle.std.proofs.Common.{◌≡◌, ℕ, List, ◌++◌}
use Rattle.std.specs.Fmt.{HasWritten, IsPlainFormatter}
use Rattle.std.specs.List.{flat_map}
use Rattle.std.specs.Slice.Iter.{chunks_rest, chunks_size}
use Rattle.script.specs.Hex.{hex_pair}
use Rattle.script.proofs.hex.HexDisplay.fmt.Given as goal

-- what was written, and what is left
abbrev pub invariant-loop-bytes : goal.invariant-loop-bytes
invariant-loop-bytes g l = record {
  size : chunks_size l.bytes-iterator ≡ 32;
  wrote : IsPlainFormatter l.initial.f → (done : List ℕ)
      × (HasWritten g.W.Write.write_str_gives l.initial.f done l.f × (done ++ flat_map hex_pair (chunks_rest l.bytes-iterator) ≡ flat_map hex_pair l.self.0.now));
}
