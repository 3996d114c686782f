use Rattle.std.proofs.Common.{arith}
use Rattle.octi_grid.specs.Runs.{steps_of}
use Rattle.drawing_weights.proofs.Turns.{turns_of-drop, turns_small}
use Rattle.drawing_weights.proofs.weights.turns_of.Goals as goal

pub overflow_add-total : goal.overflow_add-total
overflow_add-total c =
    let next = (turns_of-drop c.args.runs.now c.loop-i.i c.loop-i-test.true c.loop-i.invariant.1).0 in
    omega (arith, next, c.loop-i.invariant.0, c.turn_after-total.ensures.cost, c.requires.few, turns_small (steps_of c.args.runs.now))

pub loop-i-preserved : goal.loop-i-preserved
loop-i-preserved c =
    let next = turns_of-drop c.args.runs.now c.loop-i.i c.loop-i-test.true c.loop-i.invariant.1 in
    (omega (arith, next.0, c.loop-i.invariant.0, c.turn_after-total.ensures.cost), next.1)

pub returns-clause-small : goal.returns-clause-small
returns-clause-small c = omega (arith, c.loop-i.invariant.0, c.requires.few, turns_small (steps_of c.args.runs.now))
