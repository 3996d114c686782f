use Rattle.drawing_laws.proofs.NoRoute.{stuck_from}
use Rattle.drawing_laws.proofs.routing.no_route_means_no_free_walk.Goals as goal

pub returns : goal.returns
returns c = stuck_from
