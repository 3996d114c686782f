use Rattle.graph_core.specs.Consistent.{AreRising}
use Rattle.order_tests.proofs.Checked.{one_more, of_all}
use Rattle.order_tests.proofs.problems.all_rise.Goals as goal

pub loop-lines-preserved : goal.loop-lines-preserved
loop-lines-preserved c =
    one_more AreRising c.args.segs.now c.loop-lines.lines-index c.lines-item.result c.as_slice.result.now c.loop-lines-test.true c.lines-item.is c.as_slice.ensures
    c.loop-lines.invariant (c.rise.ensures c.if-not-rise.false)

pub returns : goal.returns
returns c = λ _. of_all AreRising c.args.segs.now c.loop-lines.lines-index c.loop-lines-test.false c.loop-lines.invariant
