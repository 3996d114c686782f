use Rattle.std.proofs.Common.{◌≡◌, ◌∙◌, ◌<◌, length, ap, arith}
use Rattle.map_base.specs.declared.ids.NodeId.{NodeId}
use Rattle.line_chains.proofs.Rings.{corner_length, corner_more, flags_are, reached_all}
use Rattle.line_chains.proofs.corners.reached_by.Goals as goal

pub loop-n-preserved : goal.loop-n-preserved
loop-n-preserved c =
    let g = c.args.graph.now in
    let cs = c.args.corners.now in
    let node : NodeId = record { 0 = c.loop-n.n } in
    let below : c.loop-n.n < length g.kinds = omega (arith, c.nodes-n-end.ensures.count, c.loop-n-test.true) in
    record {
      each = ap length c.in_ok-mark_from_corner.ensures ∙ corner_length g cs node c.loop-n.reached ∙ c.loop-n.invariant.each;
      flags = λ k. corner_more g c.nodes-n-end.ensures.fits cs c.loop-n.n c.loop-n.reached c.mark_from_corner.new.reached k c.loop-n.invariant.each below c.in_ok-mark_from_corner.ensures (c.loop-n.invariant.flags k);
    }

pub returns : goal.returns
returns c =
    let g = c.args.graph.now in
    let all : c.loop-n.n ≡ length g.kinds = omega (arith, c.nodes-n-end.ensures.count, c.loop-n-test.false, c.loop-n.auto.n-end) in
    flags_are g c.args.corners.now c.loop-n.reached c.loop-n.invariant.each (λ k h. c.loop-n.invariant.flags k ∙ reached_all g c.args.corners.now c.loop-n.n k all)
