use Rattle.std.proofs.Common.{◌∙◌, ap, length, arith}
use Rattle.label_place.proofs.Held.{has_all, length-places, placed_more, placed_none}
use Rattle.label_place.proofs.placing.places.Goals as goal

pub loop-n-init : goal.loop-n-init
loop-n-init c =
    placed_none c.put_walks.new.grid c.args.names.now c.args.graph.now c.args.drawing.now.walks _ c.new-found.ensures.items
    (has_all c.none-grid.result c.put_markers.new.grid c.put_walks.new.grid c.args.graph.now c.args.drawing.now.walks c.none-grid.ensures.none c.in_ok-put_markers.ensures c.in_ok-put_walks.ensures)

pub loop-n-preserved : goal.loop-n-preserved
loop-n-preserved c =
    placed_more c.loop-n.grid c.take_place.new.grid c.args.names.now c.args.graph.now c.args.drawing.now.walks c.loop-n.n c.loop-n.found.items c.push.new.self.items _ c.loop-n.invariant c.in_ok-take_place.ensures c.in_ok-push.ensures.items

pub returns-clause-each : goal.returns-clause-each
returns-clause-each c =
    let so_far = ap length c.loop-n.invariant.places ∙ length-places c.args.names.now c.args.graph.now c.args.drawing.now.walks c.loop-n.n in
    omega (arith, so_far)
