use Rattle.std.proofs.Common.{◌++◌, [], ap, ◌∙◌, arith, rules}
use Rattle.std.specs.List.{flat_map}
use Rattle.std.specs.Slice.Iter.{chunks_rest, chunks_size}
use Rattle.std.proofs.Output.{has_written_append, has_written_of_eq}
use Rattle.script.specs.Hex.{hex_pair}
use Rattle.script.proofs.Appended.{pairs_more}
use Rattle.script.proofs.hex.HexDisplay.fmt.Goals as goal

pub loop-bytes-init : goal.loop-bytes-init
loop-bytes-init g c =
    let i = c.into_iter-bytes-iterator.ensures.into_iter_gives in
    record {
      size = ap chunks_size i ∙ c.chunks-bytes-items.ensures.size;
      wrote = λ p. ([], (search rules, ap (λ r. flat_map hex_pair (chunks_rest r)) i ∙ ap (flat_map hex_pair) c.chunks-bytes-items.ensures.rest));
    }

pub slice_bounds-buffer-end : goal.slice_bounds-buffer-end
slice_bounds-buffer-end g c =
    let s = c.in-Some.ensures.steps in
    let n = c.loop-bytes.invariant.size in
    omega arith

pub loop-bytes-preserved : goal.loop-bytes-preserved
loop-bytes-preserved g c =
    let s = c.in-Some.ensures.steps in
    record {
      size = s.0 ∙ c.loop-bytes.invariant.size;
      wrote = λ p. let w = c.loop-bytes.invariant.wrote p in (
        w.0 ++ flat_map hex_pair c.in-Some.bytes.now,
        (
          has_written_append _ _ w.0 c.loop-bytes.f (flat_map hex_pair c.in-Some.bytes.now) c.write_str-in-loop-bytes.new.self w.1.0
              (has_written_of_eq _ _ _ _ _ (c.in-Ok.ensures.cases.0 ∙ c.put_digits.ensures.digits) (search rules)),
          pairs_more w.0 (chunks_rest c.loop-bytes.bytes-iterator) c.in-Some.bytes.now (chunks_rest c.next.new.self) s.1.0 ∙ w.1.1,
        ),
      );
    }
