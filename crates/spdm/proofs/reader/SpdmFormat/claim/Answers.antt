use Rattle.std.proofs.Common.{rules}
use Rattle.spdm.specs.Rows.{reading}
use Rattle.spdm.specs.Told.{read-as-rows}
use Rattle.spdm.specs.Walks.{claim-picked}
use Rattle.spdm.proofs.reader.SpdmFormat.claim.Goals as goal

pub returns-in-err-pick : goal.returns-in-err-pick
returns-in-err-pick c =
    let told = claim-picked (reading c.args.self.now.setup c.args.message.now) c.args.n in
    record { value = search rules; rows = read-as-rows c.args.self.now.setup c.args.message.now }

pub returns : goal.returns
returns c =
    let told = claim-picked (reading c.args.self.now.setup c.args.message.now) c.args.n in
    record { value = search rules; rows = read-as-rows c.args.self.now.setup c.args.message.now }
