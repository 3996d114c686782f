use Rattle.octi_grid.proofs.Fronts.{legal_from_no_first, legal_has_no_first}
use Rattle.octi_grid.proofs.laws.illegal_drawings_have_a_first_walk.Goals as goal

pub returns : goal.returns
returns c = λ graph walks. (legal_has_no_first graph walks, legal_from_no_first graph walks)
