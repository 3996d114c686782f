use Rattle.std.proofs.Common.{List, fold, refl, ap, ◌∙◌, arith}
use Rattle.octi_grid.specs.Walks.{PlainWalk}
use Rattle.svg_writer.specs.declared.bounds.Bounds.{Bounds}
use Rattle.svg_writer.specs.Picture.{bounds_of}
use Rattle.label_place.specs.Boxes.{hull}
use Rattle.label_place.specs.Places.{boxes_from}
use Rattle.label_place.proofs.Framing.{frame_all, frame_more}
use Rattle.label_place.proofs.whole.frame_of.Goals as goal

pub loop-n-init : goal.loop-n-init
loop-n-init c = record {
  whole =
      ap (λ (b : Bounds). fold hull b (boxes_from c.args.names.now c.args.graph.now c.args.drawing.now.walks 0 c.args.places.now))
      (c.bounds_of-frame.ensures.value ∙ ap (λ (ws : List PlainWalk). bounds_of ws) c.as_slice.ensures);
  small = c.bounds_of-frame.ensures.small;
}

pub loop-n-preserved : goal.loop-n-preserved
loop-n-preserved c = record {
  whole =
      frame_more c.args.names.now c.args.graph.now c.args.drawing.now.walks c.loop-n.n c.args.places.now _ c.loop-n.frame c.in_ok-frame.frame _ (omega arith) refl c.in_ok-frame.ensures.value c.loop-n.invariant.whole;
  small = c.in_ok-frame.ensures.small;
}

pub returns-clause-value : goal.returns-clause-value
returns-clause-value c = frame_all c.args.names.now c.args.graph.now c.args.drawing.now.walks c.loop-n.n c.args.places.now c.loop-n.frame _ (omega arith) c.loop-n.invariant.whole
