use Rattle.std.proofs.Common.{arith, ap, length}
use Rattle.line_graph.proofs.PassageSteps.{between_step, between_whole}
use Rattle.line_graph.proofs.passages.push_between.Goals as goal

pub loop-k-preserved : goal.loop-k-preserved
loop-k-preserved c = record {
  passages = between_step c.args.table.now c.args.ways.now c.args.course.now c.loop-k.k c.as_slice-stops.result.now c.args.passages.now.items c.loop-k.passages.items c.push.new.self.items c.handed_over.result
      c.requires c.as_slice-stops.ensures (omega (arith, c.loop-k.auto.k)) (omega (arith, c.loop-k-test.true)) c.loop-k.invariant.passages c.handed_over.ensures c.in_ok-push.ensures.items;
  upto = omega (arith, ap length c.as_slice-stops.ensures, c.loop-k-test.true);
}

pub returns : goal.returns
returns c =
    between_whole c.args.table.now c.args.ways.now c.args.course.now c.loop-k.k c.as_slice-stops.result.now c.args.passages.now.items c.loop-k.passages.items c.requires c.as_slice-stops.ensures c.loop-k-test.false
    c.loop-k.invariant.passages
