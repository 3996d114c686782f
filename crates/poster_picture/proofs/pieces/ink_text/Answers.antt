use Rattle.std.proofs.Common.{ap, sym}
use Rattle.poster_rules.specs.Elements.{stroke_text}
use Rattle.poster_picture.specs.Inks.{ink_colour}
use Rattle.poster_picture.specs.declared.pieces.Ink.{Ink}
use Rattle.poster_picture.proofs.pieces.ink_text.Goals as goal

pub returns-in-Black : goal.returns-in-Black
returns-in-Black c = sym (ap (λ (i : Ink). stroke_text (ink_colour i)) c.in-Black.is)

pub returns-in-White : goal.returns-in-White
returns-in-White c = sym (ap (λ (i : Ink). stroke_text (ink_colour i)) c.in-White.is)

pub returns-in-Dark : goal.returns-in-Dark
returns-in-Dark c = sym (ap (λ (i : Ink). stroke_text (ink_colour i)) c.in-Dark.is)
