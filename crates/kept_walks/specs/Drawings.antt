-- The drawing of a line graph before any moves, and how it is kept.
use Rattle.std.specs.Prelude.{◌≡◌, ℕ, List, length, true, Result, Ok, Err}
use Rattle.map_method.specs.declared.drawing_plan.DrawingPlan.{DrawingPlan}
use Rattle.graph_core.specs.declared.parts.GraphParts.{GraphParts}
use Rattle.octi_grid.specs.Walks.{PlainWalk}
use Rattle.octi_grid.specs.Legal.{legal}
use Rattle.grid_board.specs.Points.{are_near}
use Rattle.start_positions.specs.Cells.{cell_side}
use Rattle.segment_router.specs.declared.fault.RouteFault.{RouteFault}
use Rattle.segment_router.specs.Routing.{route_outcome}
use Rattle.kept_walks.specs.Straightening.{straightened}

-- the walks of a line graph after at most so many improving attempts to straighten them, on the cells that are asked for
abbrev pub straightened_walks : GraphParts → ℕ → ℕ → List PlainWalk → List PlainWalk
straightened_walks graph cell straight walks = (straightened graph (cell_side graph.places cell) straight walks).walks

-- what comes of routes, where there are some
abbrev pub straightened_routes : GraphParts → ℕ → ℕ → Result (List PlainWalk) RouteFault → Result (List PlainWalk) RouteFault
straightened_routes graph cell straight (Ok routes) = Ok (straightened_walks graph cell straight routes)
straightened_routes graph cell straight (Err stop) = Err stop

-- The drawing of a line graph by a plan: its routes, and then straightened by at most so many improving attempts. There is
-- none exactly where there are no routes.
abbrev pub drawing_outcome : GraphParts → DrawingPlan → Result (List PlainWalk) RouteFault
drawing_outcome graph plan = straightened_routes graph plan.cell plan.straight (route_outcome graph plan)

-- walks are the drawing of a line graph: a legal one, near the origin
pub record AreDrawn (graph : GraphParts) (plan : DrawingPlan) (walks : List PlainWalk) : Type 0 where
  pub drawn : drawing_outcome graph plan ≡ Ok walks
  pub legal : legal graph walks ≡ true
  pub each : length walks ≡ length graph.ends
  pub near : are_near 1820 walks ≡ true
