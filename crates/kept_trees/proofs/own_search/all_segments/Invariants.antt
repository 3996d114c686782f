use Rattle.std.proofs.Common.{◌≡◌, ◌++◌, drop}
use Rattle.dual_ascent.specs.OwnNumbers.{segments_from, all_segments}
use Rattle.kept_trees.specs.OwnTrees.{part_of_key}
use Rattle.kept_trees.proofs.own_search.all_segments.Given as goal

-- the segments so far, before those that are left
abbrev pub invariant-loop-k : goal.invariant-loop-k
invariant-loop-k l = l.part.items ++ segments_from l.k (drop l.k (part_of_key l.key).segs) ≡ all_segments (part_of_key l.key)
