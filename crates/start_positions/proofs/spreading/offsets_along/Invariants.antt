use Rattle.std.proofs.Common.{◌≡◌, ◌++◌, drop}
use Rattle.start_positions.specs.Spreads.{offsets_along}
use Rattle.start_positions.proofs.spreading.offsets_along.Given as goal

-- the numbers so far, and those that are left
abbrev pub invariant-loop-offset : goal.invariant-loop-offset
invariant-loop-offset l = l.ats.items ++ offsets_along l.east (drop l.offset-index l.offsets) ≡ offsets_along l.east l.offsets
