use Rattle.std.proofs.Common.{◌≡◌, take}
use Rattle.kept_walks.proofs.same_graphs.have_same_segments.Given as goal

-- the graphs are the same at the segments so far
abbrev pub invariant-loop-s : goal.invariant-loop-s
invariant-loop-s l = (take l.s l.some.ends ≡ take l.s l.other.ends) × (take l.s l.some.lines ≡ take l.s l.other.lines)
