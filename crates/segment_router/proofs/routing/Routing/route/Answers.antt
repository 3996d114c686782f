use Rattle.std.proofs.Common.{sym, ◌∙◌}
use Rattle.segment_router.proofs.routing.Routing.route.Goals as goal

pub returns-in-Some : goal.returns-in-Some
returns-in-Some c = (c.in-Some.walk, sym c.in_ok-route_of.ensures ∙ c.in-Some.is, c.keep.ensures)
