use Rattle.std.proofs.Common.{arith}
use Rattle.script.proofs.Appended.{digits_more, utf8_more}
use Rattle.script.proofs.hex.put_digits.Goals as goal

pub loop-i-preserved : goal.loop-i-preserved
loop-i-preserved c =
    let h = c.hex_digit.ensures in
    let l = c.hex_digit-in-loop-i.ensures in
    record {
      digits = digits_more c.loop-i.buffer c.args.bytes.now c.loop-i.i c.hex_digit.result c.hex_digit-in-loop-i.result (omega arith) (omega arith) c.loop-i.invariant.digits h.value l.value;
      utf8 = utf8_more c.loop-i.buffer c.loop-i.i c.hex_digit.result c.hex_digit-in-loop-i.result (omega arith) c.loop-i.invariant.utf8 h.ascii l.ascii;
    }
