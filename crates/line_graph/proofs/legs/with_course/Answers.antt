use Rattle.line_graph.proofs.TableSteps.{table_more, table_whole}
use Rattle.line_graph.proofs.legs.with_course.Goals as goal

pub loop-k-preserved : goal.loop-k-preserved
loop-k-preserved c =
    table_more c.args.table c.args.course.now c.loop-k.k c.loop-k.table c.in_ok-table.table c.as_slice-stops.result.now c.as_slice-hops.result.now c.stretch_between-stretch.result c.index-hops-k.result
    c.as_slice.result.now c.requires c.as_slice-stops.ensures c.as_slice-hops.ensures c.loop-k-test.true c.loop-k.invariant c.stretch_between-stretch.ensures c.index-hops-k.is c.as_slice.ensures c.in_ok-table.ensures

pub returns : goal.returns
returns c = table_whole c.args.table c.args.course.now c.loop-k.k c.loop-k.table c.as_slice-hops.result.now c.requires c.as_slice-hops.ensures c.loop-k-test.false c.loop-k.invariant
