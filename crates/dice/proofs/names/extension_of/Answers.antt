use Rattle.std.proofs.Common.{sym, ap, arith}
use Rattle.std.proofs.lemmas.Slice.Eq.{text_from_reads}
use Rattle.dice.specs.Names.{tcb_info, ueid, extension_of}
use Rattle.dice.proofs.names.extension_of.Goals as goal

pub returns-in-103 : goal.returns-in-103
returns-in-103 c = sym (ap extension_of (text_from_reads c.args.name.now tcb_info (omega arith) (omega arith, (omega arith, (omega arith, (omega arith, (omega arith, (omega arith, tt))))))))

pub returns-in-103-2 : goal.returns-in-103-2
returns-in-103-2 c = sym (ap extension_of (text_from_reads c.args.name.now ueid (omega arith) (omega arith, (omega arith, (omega arith, (omega arith, (omega arith, (omega arith, tt))))))))
