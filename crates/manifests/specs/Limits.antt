use Rattle.std.specs.Prelude.{◌≡◌, ◌≤◌}
use Rattle.claims.specs.Limits.{Within}
use Rattle.records.specs.Limits.{Each, WithinConditions}
use Rattle.manifests.specs.declared.kinds.Sort.{Sort}
use Rattle.manifests.specs.declared.kinds.Sort.TheVariants.{Reference, Endorsement}
use Rattle.manifests.specs.declared.kinds.Triple.{Triple}

-- a reference has one condition and adds nothing; an endorsement adds something
abbrev pub Counts : Sort → Triple → Type 0
Counts Reference t = (t.conditions.count ≡ 1) × (t.additions.count ≡ 0)
Counts Endorsement t = 1 ≤ t.additions.count

-- one to four conditions and at most four additions, each within its limits
pub record WithinTriple (t : Triple) : Type 0 where
  pub conditions : WithinConditions t.conditions
  pub additions : Each Within t.additions
  pub counts : Counts t.sort t
