use Rattle.svg_writer.proofs.Appends.{grew3}
use Rattle.svg_writer.proofs.elements.push_label.Goals as goal

pub returns : goal.returns
returns c = grew3 _ _ _ _ _ _ _ c.in_ok-push_str.ensures.bytes c.in_ok-push_place.ensures c.in_ok-push_name.ensures
