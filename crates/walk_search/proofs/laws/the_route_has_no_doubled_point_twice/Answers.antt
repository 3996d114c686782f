use Rattle.walk_search.proofs.Once.{route_once}
use Rattle.walk_search.proofs.laws.the_route_has_no_doubled_point_twice.Goals as goal

pub returns : goal.returns
returns c = λ q h r e. route_once q h r e
