use Rattle.poster_laws.proofs.InShapes.{on_slants}
use Rattle.poster_laws.proofs.contained.a_slanted_name_lies_in_its_shape.Goals as goal

pub returns : goal.returns
returns c = on_slants
