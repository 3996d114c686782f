use Rattle.std.proofs.Common.{arith}
use Rattle.prefix_bounds.proofs.SoFar.{decided_more}
use Rattle.prefix_bounds.proofs.decided.decided_sum.Goals as goal

pub loop-number-preserved : goal.loop-number-preserved
loop-number-preserved c =
    let more = decided_more c.args.problem.now.segs c.args.prefix.now.placed c.args.problem.now.terms c.args.part.now c.loop-number.number
    (omega (arith, c.loop-number-test.true, c.term_count-number-end.ensures.count)) in (
      omega (arith, c.loop-number.invariant.0, c.from-sum.ensures, c.cost_in.ensures.cost, more),
      omega (arith, c.loop-number.invariant.1, c.from-sum.ensures, c.cost_in.ensures.most),
    )
