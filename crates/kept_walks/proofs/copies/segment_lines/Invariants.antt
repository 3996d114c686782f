use Rattle.std.proofs.Common.{◌≡◌, take}
use Rattle.kept_walks.proofs.copies.segment_lines.Given as goal

-- those so far
abbrev pub invariant-loop-s : goal.invariant-loop-s
invariant-loop-s l = l.lines.items ≡ take l.s l.graph.lines
