use Rattle.std.proofs.Common.{◌≡◌, drop, fold}
use Rattle.svg_writer.specs.Elements.{AreBounds}
use Rattle.label_place.specs.Boxes.{hull}
use Rattle.label_place.specs.Places.{boxes_from}
use Rattle.label_place.specs.Labelled.{frame_of}
use Rattle.label_place.proofs.whole.frame_of.Given as goal

-- the bounds so far, widened to hold what is left, are the frame
abbrev pub invariant-loop-n : goal.invariant-loop-n
invariant-loop-n l = record {
  whole : fold hull l.frame (boxes_from l.names l.graph l.drawing.walks l.n (drop l.n l.places)) ≡ frame_of l.names l.graph l.drawing.walks l.places;
  small : AreBounds l.frame;
}
