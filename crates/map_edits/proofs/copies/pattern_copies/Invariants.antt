use Rattle.std.proofs.Common.{◌≡◌, take}
use Rattle.map_edits.proofs.copies.pattern_copies.Given as goal

-- as many are copied as were seen
abbrev pub invariant-loop-pattern : goal.invariant-loop-pattern
invariant-loop-pattern l = l.copies.items ≡ take l.pattern-index l.patterns
