use Rattle.std.proofs.Common.{ap, sym}
use Rattle.poster_rules.specs.Elements.{anchor_text}
use Rattle.poster_picture.proofs.pieces.anchor_text.Goals as goal

pub returns-in-Start : goal.returns-in-Start
returns-in-Start c = sym (ap anchor_text c.in-Start.is)

pub returns-in-Middle : goal.returns-in-Middle
returns-in-Middle c = sym (ap anchor_text c.in-Middle.is)

pub returns-in-End : goal.returns-in-End
returns-in-End c = sym (ap anchor_text c.in-End.is)
