use Rattle.geo_lines.proofs.Beside.{stays_beside}
use Rattle.geo_lines.proofs.laws.corners_stay_beside_their_points.Goals as goal

pub returns : goal.returns
returns c = stays_beside
