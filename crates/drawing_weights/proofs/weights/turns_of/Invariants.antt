use Rattle.std.proofs.Common.{◌≡◌, ◌+◌, true, drop}
use Rattle.octi_grid.specs.Runs.{are_runs, steps_of}
use Rattle.drawing_weights.specs.Weights.{turns_of}
use Rattle.drawing_weights.proofs.weights.turns_of.Given as goal

-- the turns so far and those of the runs that are left
abbrev pub invariant-loop-i : goal.invariant-loop-i
invariant-loop-i l =
    (l.total + turns_of (steps_of (drop l.i l.runs)) ≡ turns_of (steps_of l.runs)) × (are_runs (drop l.i l.runs) ≡ true)
