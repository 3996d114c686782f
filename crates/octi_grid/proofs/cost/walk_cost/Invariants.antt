use Rattle.std.proofs.Common.{◌≡◌, ◌+◌, true, drop}
use Rattle.octi_grid.specs.Costs.{way_cost}
use Rattle.octi_grid.specs.Runs.{are_runs, steps_of}
use Rattle.octi_grid.proofs.cost.walk_cost.Given as goal

-- the cost so far and that of the runs that are left
abbrev pub invariant-loop-i : goal.invariant-loop-i
invariant-loop-i l =
    (l.total + way_cost (steps_of (drop l.i l.runs)) ≡ way_cost (steps_of l.runs)) × (are_runs (drop l.i l.runs) ≡ true)
