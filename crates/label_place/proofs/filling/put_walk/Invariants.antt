use Rattle.std.proofs.Common.{◌≡◌, ◌++◌, drop, List}
use Rattle.std.specs.List.{AllByRecursion}
use Rattle.octi_grid.specs.Ways.{points_from, IsWithin}
use Rattle.octi_grid.specs.Runs.{steps_of}
use Rattle.label_place.specs.declared.things.Thing.{Thing}
use Rattle.label_place.specs.Grids.{strokes_from, Adds}
use Rattle.label_place.proofs.filling.put_walk.Given as goal

-- the table has the steps of the runs so far
abbrev pub invariant-loop-run : goal.invariant-loop-run
invariant-loop-run l = record {
  so_far : List Thing;
  adds : Adds l.fn.grid l.grid so_far;
  whole : so_far ++ strokes_from l.margin l.at (steps_of (drop l.run-index l.runs)) ≡ strokes_from l.margin l.walk.start l.walk.steps;
  within : AllByRecursion IsWithin (points_from l.at (steps_of (drop l.run-index l.runs)));
}
