use Rattle.svg_writer.proofs.Appends.{grew5}
use Rattle.poster_picture.proofs.elements.push_row_name.Goals as goal

pub returns : goal.returns
returns c = grew5 _ _ _ _ _ _ _ _ _ _ _ c.in_ok-push_str.ensures.bytes c.in_ok-push_place.ensures c.in_ok-push_str-2.ensures.bytes c.in_ok-push_escaped.ensures c.in_ok-push_str-3.ensures.bytes
