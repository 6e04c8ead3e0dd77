use Rattle.std.proofs.Common.{rules}
use Rattle.spdm.specs.Rows.{reading}
use Rattle.spdm.specs.Told.{read_as_rows}
use Rattle.spdm.specs.Walks.{count_picked}
use Rattle.spdm.proofs.reader.SpdmFormat.count.Goals as goal

pub returns-in_err-pick : goal.returns-in_err-pick
returns-in_err-pick c =
    let told = count_picked (reading c.args.self.now.setup c.args.message.now) 0 in
    record { value = search rules; rows = read_as_rows c.args.self.now.setup c.args.message.now }

pub returns : goal.returns
returns c =
    let told = count_picked (reading c.args.self.now.setup c.args.message.now) 0 in
    record { value = search rules; rows = read_as_rows c.args.self.now.setup c.args.message.now }
