use Rattle.std.proofs.Common.{◌≤◌, arith}
use Rattle.order_model.specs.Problems.{choices}
use Rattle.order_tests.proofs.Checked.{one_more, of_all}
use Rattle.order_tests.proofs.problems.are_few.Goals as goal

pub loop-lines-preserved : goal.loop-lines-preserved
loop-lines-preserved c =
    one_more (λ lines. choices lines ≤ 1000) c.args.segs.now c.loop-lines.lines-index c.lines-item.result c.as_slice.result.now c.loop-lines-test.true c.lines-item.is
    c.as_slice.ensures c.loop-lines.invariant (omega (arith, c.if-as_slice-gt1000.false))

pub returns : goal.returns
returns c = λ _. of_all (λ lines. choices lines ≤ 1000) c.args.segs.now c.loop-lines.lines-index c.loop-lines-test.false c.loop-lines.invariant
