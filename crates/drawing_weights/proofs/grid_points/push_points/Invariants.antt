use Rattle.std.proofs.Common.{◌≡◌, ◌++◌, drop}
use Rattle.std.specs.List.{AllByRecursion}
use Rattle.octi_grid.specs.Taking.{trail}
use Rattle.octi_grid.specs.Ways.{points_from, IsWithin}
use Rattle.octi_grid.specs.Walks.{points_of}
use Rattle.octi_grid.specs.Runs.{steps_of}
use Rattle.drawing_weights.proofs.grid_points.push_points.Given as goal

-- the points of the runs so far, and of those that are left
abbrev pub invariant-loop-run : goal.invariant-loop-run
invariant-loop-run l = record {
  points : l.points.items ++ trail l.at (steps_of (drop l.run-index l.runs)) ≡ l.fn.points.items ++ points_of l.walk;
  within : AllByRecursion IsWithin (points_from l.at (steps_of (drop l.run-index l.runs)));
}
