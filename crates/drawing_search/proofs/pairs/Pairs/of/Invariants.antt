use Rattle.std.proofs.Common.{◌≡◌, map, take}
use Rattle.drawing_search.proofs.Common.{joined_pairs, vec_items}
use Rattle.drawing_search.proofs.pairs.Pairs.of.Given as goal

-- the pairs of the nodes so far
abbrev pub invariant-loop-n : goal.invariant-loop-n
invariant-loop-n l = map vec_items l.held.items ≡ map joined_pairs (take l.n l.graph.joins)
