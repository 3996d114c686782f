use Rattle.order_sums.proofs.TableReads.{most_one_more}
use Rattle.order_sums.proofs.outweighing.most_in.Goals as goal

pub loop-sums-preserved : goal.loop-sums-preserved
loop-sums-preserved c =
    most_one_more c.args.row.now c.loop-sums.sums-index _ c.loop-sums.most c.greater-most.result c.loop-sums-test.true c.loop-sums.invariant c.greater-most.ensures
