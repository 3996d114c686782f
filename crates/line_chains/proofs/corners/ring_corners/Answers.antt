use Rattle.std.proofs.Common.{◌∙◌, ◌<◌, length, ap, arith}
use Rattle.map_base.specs.declared.ids.NodeId.{NodeId}
use Rattle.line_chains.specs.Chains.{ring_corners}
use Rattle.line_chains.proofs.Rings.{length-ring, rings_more}
use Rattle.line_chains.proofs.corners.ring_corners.Goals as goal

pub loop-n-preserved : goal.loop-n-preserved
loop-n-preserved c =
    let g = c.args.graph.now in
    let node : NodeId = record { 0 = c.loop-n.n } in
    let below : c.loop-n.n < length g.kinds = omega (arith, c.nodes-n-end.ensures.count, c.loop-n-test.true) in
    record {
      whole = rings_more g (length g.kinds) c.loop-n.n c.loop-n.corners c.add_ring.new.corners (ring_corners g) below c.in_ok-add_ring.ensures.corners c.loop-n.invariant.whole;
      each = ap length c.in_ok-add_ring.ensures.corners ∙ length-ring g c.loop-n.corners node ∙ c.loop-n.invariant.each;
      reached = c.in_ok-add_ring.ensures.reached;
    }
