use Rattle.std.proofs.Common.{◌≡◌, drop, fold, Some}
use Rattle.std.specs.List.{AllByRecursion}
use Rattle.octi_grid.specs.Ways.{points_from, IsWithin}
use Rattle.octi_grid.specs.Runs.{steps_of}
use Rattle.octi_grid.specs.Walks.{points_of}
use Rattle.line_offsets.specs.Shifts.{drawn}
use Rattle.svg_writer.specs.Elements.{AreBounds}
use Rattle.svg_writer.specs.Picture.{bounds_with}
use Rattle.svg_writer.proofs.Hulls.{Holds}
use Rattle.svg_writer.proofs.walked.with_walk.Given as goal

-- the bounds so far, widened to hold what is left, are those of the walk
abbrev pub invariant-loop-run : goal.invariant-loop-run
invariant-loop-run l = record {
  whole : fold bounds_with (Some l.bounds) (points_from l.at (steps_of (drop l.run-index l.runs))) ≡ fold bounds_with l.fn.bounds (points_of l.walk);
  holds : Holds l.bounds (drawn l.at);
  small : AreBounds l.bounds;
  within : AllByRecursion IsWithin (points_from l.at (steps_of (drop l.run-index l.runs)));
}
