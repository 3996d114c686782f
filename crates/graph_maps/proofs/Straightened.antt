-- A drawing that is straightened has the problem of its routes.
use Rattle.std.proofs.Common.{◌≡◌, refl, ℕ, List, Result, Ok, Err}
use Rattle.map_base.specs.declared.limit.Limit.{Limit}
use Rattle.map_base.specs.Settings.{Choices}
use Rattle.map_method.specs.Methods.{MethodChoices}
use Rattle.graph_core.specs.declared.parts.GraphParts.{GraphParts}
use Rattle.octi_grid.specs.Walks.{PlainWalk}
use Rattle.segment_router.specs.declared.fault.RouteFault.{RouteFault}
use Rattle.segment_router.specs.Routing.{route_outcome}
use Rattle.order_model.specs.declared.problem.ProblemParts.{ProblemParts}
use Rattle.kept_walks.specs.Drawings.{straightened_routes, straightened_walks}
use Rattle.graph_maps.specs.Problems.{drawing_plan, drawn_on, drawn_with, problem_within, routed_by, straightened_drawing}

module _ (importance : List ℕ) (choices : Choices) (method : MethodChoices) (graph : GraphParts) where
  by_problem : (walks : List PlainWalk) (o : Result ProblemParts Limit)
      → drawn_with graph (straightened_walks graph choices.cell method.straight walks) o
      ≡ straightened_drawing choices method (drawn_with graph walks o)
  by_problem walks (Ok problem) = refl
  by_problem walks (Err limit) = refl

  by_routes : (r : Result (List PlainWalk) RouteFault)
      → routed_by importance choices graph (straightened_routes graph choices.cell method.straight r)
      ≡ straightened_drawing choices method (routed_by importance choices graph (straightened_routes graph choices.cell 0 r))
  by_routes (Ok walks) = by_problem walks (problem_within importance choices graph)
  by_routes (Err stop) = refl

  pub drawn_straight : drawn_on importance choices method graph
      ≡ straightened_drawing choices method (drawn_on importance choices (record method { straight = 0 }) graph)
  drawn_straight = by_routes (route_outcome graph (drawing_plan choices method))
