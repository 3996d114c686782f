use Rattle.svg_writer.proofs.Appends.{grew2}
use Rattle.poster_picture.proofs.names.push_alone.Goals as goal

pub returns : goal.returns
returns c = grew2 _ _ _ _ _ c.in_ok-push_spot.ensures c.in_ok-push_name_text.ensures
