use Rattle.std.proofs.Common.{◌<◌, length, arith}
use Rattle.octi_grid.specs.Runs.{steps_of}
use Rattle.octi_grid.proofs.CostLemmas.{way_cost-drop, way_cost_small}
use Rattle.octi_grid.proofs.cost.walk_cost.Goals as goal

pub overflow_add-total : goal.overflow_add-total
overflow_add-total c =
    let next = (way_cost-drop c.runs-runs.result.now c.loop-i.i c.loop-i-test.true c.loop-i.invariant.1).0 in
    let steps : length (steps_of c.runs-runs.result.now) < 1152921504606846976 = rw c.runs-runs.ensures.steps c.requires in
    omega (arith, next, c.loop-i.invariant.0, c.run_cost-total.ensures, way_cost_small (steps_of c.runs-runs.result.now))

pub loop-i-preserved : goal.loop-i-preserved
loop-i-preserved c =
    let next = way_cost-drop c.runs-runs.result.now c.loop-i.i c.loop-i-test.true c.loop-i.invariant.1 in
    (omega (arith, next.0, c.loop-i.invariant.0, c.run_cost-total.ensures), next.1)
