use Rattle.std.proofs.Common.{sym, ap, arith}
use Rattle.std.proofs.lemmas.Slice.Eq.{text_from_reads}
use Rattle.dice.specs.Names.{sha256, sha384, sha512, algorithm_named}
use Rattle.dice.proofs.names.algorithm_named.Goals as goal

pub returns-in-96 : goal.returns-in-96
returns-in-96 c = sym (ap algorithm_named (text_from_reads c.args.name.now sha256 (omega arith) (omega arith, (omega arith, (omega arith, (omega arith, (omega arith, (omega arith, (omega arith, (omega arith, (omega arith, tt)))))))))))

pub returns-in-96-2 : goal.returns-in-96-2
returns-in-96-2 c = sym (ap algorithm_named (text_from_reads c.args.name.now sha384 (omega arith) (omega arith, (omega arith, (omega arith, (omega arith, (omega arith, (omega arith, (omega arith, (omega arith, (omega arith, tt)))))))))))

pub returns-in-96-3 : goal.returns-in-96-3
returns-in-96-3 c = sym (ap algorithm_named (text_from_reads c.args.name.now sha512 (omega arith) (omega arith, (omega arith, (omega arith, (omega arith, (omega arith, (omega arith, (omega arith, (omega arith, (omega arith, tt)))))))))))
