use Rattle.std.proofs.Common.{rules}
use Rattle.script.proofs.Skips.{end_more}
use Rattle.script.proofs.reader.Words.end.Goals as goal

pub returns-in-Some : goal.returns-in-Some
returns-in-Some c = search (rules, end_more)
