use Rattle.text.proofs.Shown.{hex_shown, number_shown}
use Rattle.text.proofs.claim.EnvironmentTextDisplay.fmt.Goals as goal

pub returns-clause-writes : goal.returns-clause-writes
returns-clause-writes g c plain ok =
    let e = c.args.self.now.0.now in
    (rw (
      hex_shown _ c.hex.result e.class c.hex.ensures,
      hex_shown _ c.hex-2.result e.vendor c.hex-2.ensures,
      hex_shown _ c.hex-3.result e.model c.hex-3.ensures,
      number_shown _ e.layer,
      number_shown _ e.index,
      hex_shown _ c.hex-4.result e.instance c.hex-4.ensures,
    ) at c.write.ensures.writes) plain ok
