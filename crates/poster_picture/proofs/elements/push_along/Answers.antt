use Rattle.svg_writer.proofs.Appends.{grew4}
use Rattle.poster_picture.proofs.elements.push_along.Goals as goal

pub returns : goal.returns
returns c = grew4 _ _ _ _ _ _ _ _ _ c.in_ok-push_str.ensures.bytes c.in_ok-push_path.ensures c.in_ok-push_stroke.ensures c.in_ok-push_width.ensures
