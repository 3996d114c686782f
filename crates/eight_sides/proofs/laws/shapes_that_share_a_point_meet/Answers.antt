use Rattle.eight_sides.proofs.Sharing.{shapes_share}
use Rattle.eight_sides.proofs.laws.shapes_that_share_a_point_meet.Goals as goal

pub returns : goal.returns
returns c = λ a b s x y some h i. shapes_share a b s x y some h i
