use Rattle.svg_writer.proofs.Appends.{grew3}
use Rattle.poster_picture.proofs.names.push_rim.Goals as goal

pub returns : goal.returns
returns c = grew3 _ _ _ _ _ _ _ c.in_ok-push_spot.ensures c.in_ok-push_str.ensures.bytes c.in_ok-push_name_text.ensures
