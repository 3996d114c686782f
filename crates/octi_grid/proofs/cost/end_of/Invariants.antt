use Rattle.std.proofs.Common.{◌≡◌, drop}
use Rattle.std.specs.List.{AllByRecursion}
use Rattle.octi_grid.specs.Ways.{after, points_from, IsWithin}
use Rattle.octi_grid.specs.Runs.{steps_of}
use Rattle.octi_grid.specs.Walks.{end_point}
use Rattle.octi_grid.proofs.cost.end_of.Given as goal

-- the runs that are left lead from here to the end
abbrev pub invariant-loop-run : goal.invariant-loop-run
invariant-loop-run l =
    (after l.at (steps_of (drop l.run-index l.run-items)) ≡ end_point l.walk) × AllByRecursion IsWithin (points_from l.at (steps_of (drop l.run-index l.run-items)))
