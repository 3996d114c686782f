use Rattle.poster_laws.proofs.InShapes.{level}
use Rattle.poster_laws.proofs.contained.a_level_name_lies_in_its_shape.Goals as goal

pub returns : goal.returns
returns c = level
