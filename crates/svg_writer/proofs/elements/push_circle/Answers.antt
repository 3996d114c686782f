use Rattle.svg_writer.proofs.Appends.{grew5}
use Rattle.svg_writer.proofs.elements.push_circle.Goals as goal

pub returns : goal.returns
returns c = grew5 _ _ _ _ _ _ _ _ _ _ _ c.in_ok-push_str.ensures.bytes c.in_ok-push_natural.ensures c.in_ok-push_str-2.ensures.bytes c.in_ok-push_quoted.ensures c.in_ok-push_str-3.ensures.bytes
