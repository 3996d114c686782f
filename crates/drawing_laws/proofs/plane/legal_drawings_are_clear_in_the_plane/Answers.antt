use Rattle.drawing_laws.proofs.Legal.{clear_in_plane}
use Rattle.drawing_laws.proofs.Planar.{legal_from}
use Rattle.drawing_laws.proofs.plane.legal_drawings_are_clear_in_the_plane.Goals as goal

pub returns : goal.returns
returns c = record { legal = clear_in_plane; others = legal_from }
