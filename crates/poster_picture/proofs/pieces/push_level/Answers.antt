use Rattle.svg_writer.proofs.Appends.{grew3}
use Rattle.poster_picture.proofs.pieces.push_level.Goals as goal

pub returns : goal.returns
returns c = grew3 _ _ _ _ _ _ _ c.in_ok-push_str.ensures.bytes c.in_ok-push_place.ensures c.in_ok-push_str-2.ensures.bytes
