use Rattle.std.proofs.Common.{◌≡◌, true, ◌++◌, drop}
use Rattle.std.specs.List.{AllByRecursion}
use Rattle.octi_grid.specs.Ways.{points_from, IsWithin}
use Rattle.octi_grid.specs.Runs.{are_runs, steps_of}
use Rattle.poster_rules.specs.Plans.{pieces_from}
use Rattle.poster_graph.proofs.plans.put_pieces.Given as goal

-- the pieces so far, and those of the runs that are left, are those of the walk
abbrev pub invariant-loop-i : goal.invariant-loop-i
invariant-loop-i l = record {
  whole : l.pieces.items ++ pieces_from l.lines l.ends l.start l.start (steps_of (drop l.i l.runs)) ≡ l.fn.pieces.items ++ pieces_from l.lines l.ends l.walk.start l.walk.start l.walk.steps;
  runs : are_runs (drop l.i l.runs) ≡ true;
  within : AllByRecursion IsWithin (points_from l.start (steps_of (drop l.i l.runs)));
}
