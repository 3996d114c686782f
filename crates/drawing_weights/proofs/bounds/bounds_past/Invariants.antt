use Rattle.std.proofs.Common.{◌≡◌, take}
use Rattle.std.specs.List.{flat_map}
use Rattle.octi_grid.specs.Walks.{points_of}
use Rattle.drawing_weights.proofs.bounds.bounds_past.Given as goal

-- the grid points of the first walks
abbrev pub invariant-loop-walk : goal.invariant-loop-walk
invariant-loop-walk l = l.points.items ≡ flat_map points_of (take l.walk-index l.walks)
