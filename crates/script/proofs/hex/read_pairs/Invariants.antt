use Rattle.std.proofs.Common.{◌≡◌, ◌++◌, vec_items}
use Rattle.std.specs.Option.{option_map}
use Rattle.std.specs.Slice.Iter.{chunks_rest, chunks_size}
use Rattle.script.specs.Hex.{pair_bytes}
use Rattle.script.proofs.hex.read_pairs.Given as goal

abbrev pub invariant-loop-digits : goal.invariant-loop-digits
invariant-loop-digits l = record {
  whole : pair_bytes l.word ≡ option_map (λ bs. vec_items l.bytes ++ bs) (pair_bytes (chunks_rest l.digits-iterator));
  two : chunks_size l.digits-iterator ≡ 2;
}
