use Rattle.svg_writer.proofs.Appends.{grew4}
use Rattle.poster_picture.proofs.pieces.push_name_text.Goals as goal

pub returns : goal.returns
returns c = grew4 _ _ _ _ _ _ _ _ _ c.in_ok-push_str.ensures.bytes c.in_ok-push_escaped.ensures c.in_ok-push_endings.ensures c.in_ok-push_str-2.ensures.bytes
