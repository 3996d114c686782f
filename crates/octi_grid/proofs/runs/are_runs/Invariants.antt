use Rattle.std.proofs.Common.{◌≡◌, drop}
use Rattle.octi_grid.specs.Runs.{are_runs}
use Rattle.octi_grid.proofs.runs.are_runs.Given as goal

abbrev pub invariant-loop-i : goal.invariant-loop-i
invariant-loop-i l = are_runs (drop l.i l.runs) ≡ are_runs l.runs
