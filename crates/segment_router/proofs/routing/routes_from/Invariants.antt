use Rattle.std.proofs.Common.{◌≡◌, drop, length}
use Rattle.start_positions.specs.Homes.{grid_under}
use Rattle.segment_router.specs.Orders.{routing_order}
use Rattle.segment_router.specs.Routes.{none_routed, route_each}
use Rattle.segment_router.specs.Underway.{routed_of, IsUnderway}
use Rattle.segment_router.proofs.routing.routes_from.Given as goal

-- routing is under way, with the segments that are left
abbrev pub invariant-loop-seg : goal.invariant-loop-seg
invariant-loop-seg l = record {
  underway : IsUnderway l.graph (routed_of l.routing);
  rest : route_each l.graph (drop l.seg-index l.order) (routed_of l.routing)
      ≡ route_each l.graph (routing_order l.graph.lines) (none_routed (grid_under l.placing) l.placing.points (length l.graph.ends));
}
