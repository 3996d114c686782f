-- Routes, straightened.
use Rattle.std.proofs.Common.{◌≡◌, ◌∙◌, ap, sym, ℕ, List, Ok}
use Rattle.map_method.specs.declared.drawing_plan.DrawingPlan.{DrawingPlan}
use Rattle.graph_core.specs.declared.parts.GraphParts.{GraphParts}
use Rattle.octi_grid.specs.Walks.{PlainWalk}
use Rattle.segment_router.specs.declared.fault.RouteFault.{RouteFault}
use Rattle.segment_router.specs.declared.fault.RouteFault.TheVariants as fault
use Rattle.segment_router.specs.Routing.{route_outcome, HasCause}
use Rattle.kept_walks.specs.Drawings.{drawing_outcome, straightened_routes, straightened_walks}

-- where there are no routes there is no drawing
pub cause_stays : (graph : GraphParts) (plan : DrawingPlan) (stop : RouteFault)
    → HasCause (route_outcome graph plan) stop → HasCause (drawing_outcome graph plan) stop
cause_stays graph plan (fault.NoRoute s) h = ap (straightened_routes graph plan.cell plan.straight) h
cause_stays graph plan (fault.Limit l) h = ap (straightened_routes graph plan.cell plan.straight) h
cause_stays graph plan fault.NoMemory h = tt

-- where there are routes, what they come to is the drawing
pub drawing_there : (graph : GraphParts) (plan : DrawingPlan) (routes walks : List PlainWalk)
    → route_outcome graph plan ≡ Ok routes → walks ≡ straightened_walks graph plan.cell plan.straight routes
    → drawing_outcome graph plan ≡ Ok walks
drawing_there graph plan routes walks routed same =
    ap (straightened_routes graph plan.cell plan.straight) routed ∙ ap (λ (w : List PlainWalk). Ok w) (sym same)

-- where no attempt is made, routes stay as they are
pub not_straightened : (graph : GraphParts) (cell straight : ℕ) (walks : List PlainWalk) → straight ≡ 0
    → walks ≡ straightened_walks graph cell straight walks
not_straightened graph cell straight walks none =
    ap (λ (n : ℕ). straightened_walks graph cell n walks) (sym none)
