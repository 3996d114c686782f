use Rattle.std.proofs.Common.{ap, sym}
use Rattle.poster_rules.specs.Elements.{size_text}
use Rattle.poster_picture.proofs.pieces.size_text.Goals as goal

pub returns-in-Full : goal.returns-in-Full
returns-in-Full c = sym (ap size_text c.in-Full.is)

pub returns-in-Small : goal.returns-in-Small
returns-in-Small c = sym (ap size_text c.in-Small.is)

pub returns-in-Over : goal.returns-in-Over
returns-in-Over c = sym (ap size_text c.in-Over.is)
