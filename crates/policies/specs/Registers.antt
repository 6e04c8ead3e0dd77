use Rattle.authorities.specs.declared.kinds.Authorities.{Authorities}
use Rattle.authorities.specs.Sets.{no_authorities, in_set, together}
use Rattle.policies.specs.Uses.{Permitted}
use Rattle.policies.specs.declared.kinds.Use.{Use}
use Rattle.policies.specs.declared.kinds.Use.TheVariants.{Evidence, Reference, Endorsement}
use Rattle.policies.specs.declared.kinds.Register.{Register}

-- the authorities of a use
abbrev pub signers_of : Register → Use → Authorities
signers_of r Evidence = r.evidence
signers_of r Reference = r.reference
signers_of r Endorsement = r.endorsement

-- a register permits the authorities of the use, whatever the class
abbrev pub register_permits : Register → Permitted
register_permits r a u c = in_set (signers_of r u) a

abbrev pub no_register : Register
no_register = record { evidence = no_authorities; reference = no_authorities; endorsement = no_authorities }

-- a register with more authorities for a use
abbrev pub register_with : Register → Use → Authorities → Register
register_with r Evidence more = record { evidence = together r.evidence more; reference = r.reference; endorsement = r.endorsement }
register_with r Reference more = record { evidence = r.evidence; reference = together r.reference more; endorsement = r.endorsement }
register_with r Endorsement more = record { evidence = r.evidence; reference = r.reference; endorsement = together r.endorsement more }
