use Rattle.std.proofs.Common.{◌≡◌, map}
use Rattle.std.specs.List.{range_with_len}
use Rattle.drawing_weights.specs.Weights.{point_of}
use Rattle.drawing_weights.proofs.points.points_of.Given as goal

-- the points of the first nodes
abbrev pub invariant-loop-n : goal.invariant-loop-n
invariant-loop-n l = l.points.items ≡ map (point_of l.graph l.walks) (range_with_len 0 l.n)
