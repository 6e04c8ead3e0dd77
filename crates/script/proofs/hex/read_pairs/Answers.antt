use Rattle.std.proofs.Common.{vec_items, sym, ap, ◌∙◌, inr, arith}
use Rattle.std.specs.Slice.Iter.{chunks_rest, chunks_size}
use Rattle.script.proofs.Digits.{odd_none, pairs_begin, pair_read}
use Rattle.script.proofs.hex.read_pairs.Goals as goal

pub loop-digits-preserved : goal.loop-digits-preserved
loop-digits-preserved c =
    let s = c.in-Some.ensures.steps in
    record {
      whole = pair_read c.args.word.now (chunks_rest c.loop-digits.digits-iterator) c.in-Some.digits.now (chunks_rest c.next.new.self)
          (vec_items c.loop-digits.bytes) (vec_items c.push.new.self) c.in_ok-byte.byte c.loop-digits.invariant.whole s.1.0 (omega arith) (sym c.in_ok-byte.ensures.ok_part ∙ c.pair.ensures) c.in_ok-push.ensures.items;
      two = omega arith;
    }

pub returns-then-word-eq1 : goal.returns-then-word-eq1
returns-then-word-eq1 c = inr (rw (odd_none c.args.word.now (omega arith)))

pub loop-digits-init : goal.loop-digits-init
loop-digits-init c =
    let i = c.into_iter-digits-iterator.ensures.into_iter_gives in
    record {
      whole = pairs_begin c.args.word.now (chunks_rest c.into_iter-digits-iterator.result) (vec_items c.new-bytes.result)
          (ap chunks_rest i ∙ c.chunks-digits-items.ensures.rest) c.new-bytes.ensures.items;
      two = ap chunks_size i ∙ c.chunks-digits-items.ensures.size;
    }
