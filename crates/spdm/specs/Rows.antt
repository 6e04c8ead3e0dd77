use Rattle.std.specs.Prelude.{ℕ, zero, suc, ◌+◌, cond, List, [], ◌∷◌, length, drop, Some, None, Ok, Option, ◌==◌}
use Rattle.refusals.specs.Reading.{Outcome, onward, keeps, need, or_refuse, above}
use Rattle.refusals.specs.declared.Refusal.TheVariants.{Malformed, Unknown, OutOfLimits}
use Rattle.parts.specs.Holders.{Element}
use Rattle.parts.specs.Picks.{noted}
use Rattle.evidence.specs.Readings.{Reading}
use Rattle.spdm.specs.Blocks.{block_of}
use Rattle.spdm.specs.Claims.{claim_of}
use Rattle.spdm.specs.declared.kinds.Setup.{Setup}
use Rattle.spdm.specs.declared.kinds.Entry.{Entry}
use Rattle.spdm.specs.declared.kinds.Row.{Row}

-- what the block at the beginning of m gives; it stands at the offset `at`, behind a block of the index `last`
abbrev pub entry_of : Setup → Option ℕ → ℕ → List ℕ → Outcome Entry
entry_of s last at m =
    or_refuse (block_of m) (Malformed at) (λ b.
    need (above last b.index) (Unknown at)
    (or_refuse (claim_of s b) (OutOfLimits at) (λ c.
    Ok (record { index = b.index; size = 7 + length b.value; claim = c }))))

-- the claims of the blocks that fill m, which stands at the offset `at`. Each block has bytes of its own, so n steps do where m has n bytes
abbrev pub row_of : Setup → ℕ → Option ℕ → ℕ → List ℕ → Reading
row_of s zero last at m = Ok []
row_of s (suc n) last at m =
    cond (length m == 0) (Ok [])
    (onward (entry_of s last at m) (λ e.
    keeps (row_of s n (Some e.index) (at + e.size) (drop e.size m)) (λ cs. e.claim ∷ cs)))

-- the reading of a message
abbrev pub reading : Setup → List ℕ → Reading
reading s m = row_of s (length m) None 0 m

-- a block, as an element of a row
abbrev pub block_at : Element Row
block_at r p =
    keeps (entry_of r.setup r.last p.at p.bytes) (λ e. record {
      value = record { setup = r.setup; wanted = r.wanted; last = Some e.index; pick = noted r.wanted r.pick e.claim };
      size = e.size;
    })
