use Rattle.std.proofs.Common.{◌≡◌, drop}
use Rattle.std.specs.List.{list_all}
use Rattle.octi_grid.specs.Ways.{is_within, points_from, IsWithin}
use Rattle.octi_grid.specs.Runs.{steps_of}
use Rattle.octi_grid.proofs.runs.stay_within.Given as goal

-- the answer hangs on the runs that are left
abbrev pub invariant-loop-run : goal.invariant-loop-run
invariant-loop-run l =
    (list_all is_within (points_from l.at (steps_of (drop l.run-index l.runs))) ≡ list_all is_within (points_from l.fn.start (steps_of l.runs))) × IsWithin l.at
