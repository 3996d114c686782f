use Rattle.svg_writer.proofs.Appends.{grew5}
use Rattle.poster_picture.proofs.elements.push_on_segment.Goals as goal

pub returns : goal.returns
returns c = grew5 _ _ _ _ _ _ _ _ _ _ _ c.in_ok-push_str.ensures.bytes c.in_ok-push_ids.ensures c.in_ok-push_path.ensures c.in_ok-push_stroke.ensures c.in_ok-push_title.ensures
