use Rattle.std.proofs.Common.{◌+◌, length, arith}
use Rattle.drawing_search.proofs.Common.{at_drop_all, ltb-true, scale_of, steps_gain, ChainStep}
use Rattle.drawing_search.proofs.FieldFacts.{gain_more}
use Rattle.drawing_search.proofs.RunReads.{inner_stands}
use Rattle.drawing_search.proofs.gains.Field.steps_gain.Goals as goal

abbrev none : ChainStep
none = record { seg = record { 0 = 0 }; to = record { 0 = 0 } }

pub step_gain-total-requires-clause-segment : goal.step_gain-total-requires-clause-segment
step_gain-total-requires-clause-segment c = (c.requires.steps c.loop-i.i none c.loop-i-test.true).0

pub step_gain-total-requires-clause-node : goal.step_gain-total-requires-clause-node
step_gain-total-requires-clause-node c = (c.requires.steps c.loop-i.i none c.loop-i-test.true).1

pub step_gain-total-requires-clause-inner : goal.step_gain-total-requires-clause-inner
step_gain-total-requires-clause-inner c = λ e. inner_stands c.args.sketch.now c.args.steps.now c.loop-i.i c.requires.inner (ltb-true (c.loop-i.i + 1) (length c.args.steps.now) e)

pub loop-i-preserved : goal.loop-i-preserved
loop-i-preserved c =
    let f = c.args.self in
    let more = gain_more (scale_of f.by) f.graph.now f.first.now c.args.sketch.now c.args.steps.now c.loop-i.i none c.loop-i-test.true in
    (omega (arith, c.loop-i.invariant.0, c.step_gain-total.ensures.gain, more), omega (arith, c.loop-i.invariant.1, c.step_gain-total.ensures.small))

pub returns-clause-gain : goal.returns-clause-gain
returns-clause-gain c =
    let f = c.args.self in
    let all = at_drop_all (steps_gain (scale_of f.by) f.graph.now f.first.now c.args.sketch.now) c.args.steps.now c.loop-i.i c.loop-i-test.false in
    omega (arith, c.loop-i.invariant.0, all)
