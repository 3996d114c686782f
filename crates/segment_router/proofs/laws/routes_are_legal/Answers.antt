use Rattle.segment_router.proofs.LegalRoutes.{legal_routes, route_each_segment}
use Rattle.segment_router.proofs.laws.routes_are_legal.Goals as goal

pub returns-clause-legal : goal.returns-clause-legal
returns-clause-legal c = legal_routes

pub returns-clause-each : goal.returns-clause-each
returns-clause-each c = route_each_segment
