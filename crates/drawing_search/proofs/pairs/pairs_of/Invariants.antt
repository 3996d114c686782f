use Rattle.std.proofs.Common.{◌≡◌, ◌++◌, drop}
use Rattle.drawing_weights.specs.Scales.{joined_pairs}
use Rattle.drawing_search.proofs.pairs.pairs_of.Given as goal

-- the pairs so far, and those of the joins that are left
abbrev pub invariant-loop-i : goal.invariant-loop-i
invariant-loop-i l = l.pairs.items ++ joined_pairs (drop l.i l.joins) ≡ joined_pairs l.joins
