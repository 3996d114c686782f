use Rattle.svg_writer.proofs.Appends.{grew3}
use Rattle.svg_writer.proofs.elements.push_marker.Goals as goal

pub returns : goal.returns
returns c = grew3 _ _ _ _ _ _ _ c.in_ok-push_str.ensures.bytes c.in_ok-push_centre.ensures c.in_ok-push_circle.ensures
