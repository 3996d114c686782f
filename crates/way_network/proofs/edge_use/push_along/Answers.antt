use Rattle.std.proofs.Common.{arith}
use Rattle.way_network.proofs.UseLemmas.{pushed_step}
use Rattle.way_network.proofs.edge_use.push_along.Goals as goal

pub loop-k-preserved : goal.loop-k-preserved
loop-k-preserved c = record {
  uses = pushed_step c.args.line c.loop-k.k c.args.points.now c.args.uses.now.items c.loop-k.uses.items c.push_both.new.uses.items (omega (arith, c.loop-k.auto.k)) (omega (arith, c.loop-k-test.true))
      c.loop-k.invariant.uses c.in_ok-push_both.ensures;
  upto = omega arith;
}
