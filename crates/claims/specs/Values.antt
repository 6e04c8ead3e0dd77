use Rattle.std.specs.Prelude.{ℕ, replicate, Some, None}
use Rattle.claims.specs.Digests.{no_digests}
use Rattle.claims.specs.declared.kinds.Bytes.{Bytes}
use Rattle.claims.specs.declared.kinds.Digests.{Digests}
use Rattle.claims.specs.declared.kinds.Flags.{Flags}
use Rattle.claims.specs.declared.kinds.Values.{Values}

-- no flag is known
abbrev pub no_flags : Flags
no_flags = record { states = replicate 10 None }

abbrev pub no_values : Values
no_values = record { version = None; svn = None; digests = no_digests; flags = no_flags; raw = None }

-- values with one more

abbrev pub with_version : Values → Bytes 32 → Values
with_version s x = record { version = Some x; svn = s.svn; digests = s.digests; flags = s.flags; raw = s.raw }

abbrev pub with_svn : Values → ℕ → Values
with_svn s x = record { version = s.version; svn = Some x; digests = s.digests; flags = s.flags; raw = s.raw }

abbrev pub with_digests : Values → Digests → Values
with_digests s x = record { version = s.version; svn = s.svn; digests = x; flags = s.flags; raw = s.raw }

abbrev pub with_flags : Values → Flags → Values
with_flags s x = record { version = s.version; svn = s.svn; digests = s.digests; flags = x; raw = s.raw }

abbrev pub with_raw : Values → Bytes 64 → Values
with_raw s x = record { version = s.version; svn = s.svn; digests = s.digests; flags = s.flags; raw = Some x }
