use Rattle.std.proofs.Common.{◌≡◌, true, ◌++◌, drop}
use Rattle.std.specs.List.{AllByRecursion}
use Rattle.octi_grid.specs.Ways.{points_from, IsWithin}
use Rattle.octi_grid.specs.Runs.{are_runs, steps_of}
use Rattle.line_offsets.specs.Paths.{corners_from, line_path_at}
use Rattle.line_offsets.proofs.path.put_path_at.Given as goal

-- the corners so far, and those of the runs that are left, are the path
abbrev pub invariant-loop-i : goal.invariant-loop-i
invariant-loop-i l = record {
  whole : l.path.items ++ corners_from l.pitch l.k l.at (steps_of (drop l.i l.runs)) ≡ line_path_at l.pitch l.walk l.k;
  runs : are_runs (drop l.i l.runs) ≡ true;
  within : AllByRecursion IsWithin (points_from l.at (steps_of (drop l.i l.runs)));
}
