use Rattle.std.proofs.Common.{◌≡◌, take}
use Rattle.map_edits.proofs.copies.line_copies.Given as goal

-- as many are copied as were seen
abbrev pub invariant-loop-line : goal.invariant-loop-line
invariant-loop-line l = l.copies.items ≡ take l.line-index l.lines
