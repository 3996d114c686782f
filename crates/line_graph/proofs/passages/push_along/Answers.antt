use Rattle.std.proofs.Common.{arith}
use Rattle.line_graph.proofs.PassageSteps.{along_step}
use Rattle.line_graph.proofs.passages.push_along.Goals as goal

pub loop-k-preserved : goal.loop-k-preserved
loop-k-preserved c = record {
  passages = along_step c.args.line c.loop-k.k c.args.points.now c.args.passages.now.items c.loop-k.passages.items c.push.new.self.items (omega (arith, c.loop-k.auto.k)) (omega (arith, c.loop-k-test.true))
      c.loop-k.invariant.passages c.in_ok-push.ensures.items;
  upto = omega arith;
}
