use Rattle.std.proofs.Common.{rules}
use Rattle.manifests.specs.Triples.{triples_of}
use Rattle.manifests.proofs.Limits.{read_as_written}
use Rattle.manifests.proofs.Passed.{count_picked}
use Rattle.manifests.proofs.reader.count.Goals as goal

pub returns-in_err-pick : goal.returns-in_err-pick
returns-in_err-pick c =
    let told = count_picked (triples_of c.args.signer c.args.message.now) 0 in
    record { value = search rules; law = read_as_written c.args.signer c.args.message.now }

pub returns : goal.returns
returns c =
    let told = count_picked (triples_of c.args.signer c.args.message.now) 0 in
    record { value = search rules; law = read_as_written c.args.signer c.args.message.now }
