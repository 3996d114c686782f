use Rattle.std.proofs.Common.{◌++◌, refl, ap, arith}
use Rattle.label_place.specs.Labelled.{spots_from}
use Rattle.label_place.proofs.Framing.{spots_all, spots_more}
use Rattle.label_place.proofs.whole.spots_of.Goals as goal

pub loop-n-init : goal.loop-n-init
loop-n-init c = ap (λ spots. spots ++ spots_from c.args.names.now c.args.graph.now c.args.drawing.now.walks 0 c.args.places.now) c.new-spots.ensures.items

pub loop-n-preserved : goal.loop-n-preserved
loop-n-preserved c =
    spots_more c.args.names.now c.args.graph.now c.args.drawing.now.walks c.loop-n.n c.args.places.now _ _ c.loop-n.spots.items c.push.new.self.items _ (omega arith) refl c.in_ok-spot_of.ensures c.in_ok-push.ensures.items c.loop-n.invariant

pub returns : goal.returns
returns c = spots_all c.args.names.now c.args.graph.now c.args.drawing.now.walks c.loop-n.n c.args.places.now c.loop-n.spots.items _ (omega arith) c.loop-n.invariant
