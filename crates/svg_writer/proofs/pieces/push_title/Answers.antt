use Rattle.svg_writer.proofs.Appends.{grew3}
use Rattle.svg_writer.proofs.pieces.push_title.Goals as goal

pub returns : goal.returns
returns c = grew3 _ _ _ _ _ _ _ c.in_ok-push_str.ensures.bytes c.in_ok-push_escaped.ensures c.in_ok-push_str-2.ensures.bytes
