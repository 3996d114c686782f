use Rattle.std.proofs.Common.{◌≡◌, take}
use Rattle.kept_walks.proofs.copies.segment_ends.Given as goal

-- those so far
abbrev pub invariant-loop-s : goal.invariant-loop-s
invariant-loop-s l = l.ends.items ≡ take l.s l.graph.ends
