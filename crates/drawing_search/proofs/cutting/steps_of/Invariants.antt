use Rattle.std.proofs.Common.{◌≡◌, ◌++◌, drop}
use Rattle.octi_grid.specs.Runs.{steps_of}
use Rattle.drawing_search.proofs.cutting.steps_of.Given as goal

-- the steps of the runs so far, and of those that are left
abbrev pub invariant-loop-run : goal.invariant-loop-run
invariant-loop-run l = l.steps.items ++ steps_of (drop l.run-index l.runs) ≡ l.walk.steps
