use Rattle.std.proofs.Common.{codes}
use Rattle.text.proofs.Shown.{hex_shown, number_shown}
use Rattle.text.proofs.claim.ValuesTextDisplay.fmt.Goals as goal

pub returns-clause-writes : goal.returns-clause-writes
returns-clause-writes g c plain ok =
    let v = c.args.self.now.0.now in
    (rw (
      hex_shown _ c.hex.result v.version c.hex.ensures,
      number_shown _ v.svn,
      hex_shown (codes " raw=") c.hex-2.result v.raw c.hex-2.ensures,
    ) at c.write.ensures.writes) plain ok
