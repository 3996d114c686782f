use Rattle.std.proofs.Common.{◌≡◌, take}
use Rattle.kept_walks.proofs.copies.node_kinds.Given as goal

-- those so far
abbrev pub invariant-loop-n : goal.invariant-loop-n
invariant-loop-n l = l.kinds.items ≡ take l.n l.graph.kinds
