use Rattle.text.proofs.Shown.{hex_shown}
use Rattle.text.proofs.claim.DigestsTextDisplay.fmt.Goals as goal

pub returns-clause-writes : goal.returns-clause-writes
returns-clause-writes g c plain ok =
    let d = c.args.self.now.0.now in
    (rw (
      hex_shown _ c.hex.result d.sha256 c.hex.ensures,
      hex_shown _ c.hex-2.result d.sha384 c.hex-2.ensures,
      hex_shown _ c.hex-3.result d.sha512 c.hex-3.ensures,
    ) at c.write.ensures.writes) plain ok
