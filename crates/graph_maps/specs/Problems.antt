-- The drawing of a line graph, and the problem of its line orders; or why there is none.
use Rattle.std.specs.Prelude.{ℕ, List, Result, Ok, Err}
use Rattle.map_base.specs.declared.limit.Limit.{Limit}
use Rattle.map_base.specs.Settings.{Choices}
use Rattle.map_method.specs.declared.drawing_plan.DrawingPlan.{DrawingPlan}
use Rattle.map_method.specs.Methods.{MethodChoices}
use Rattle.graph_core.specs.declared.parts.GraphParts.{GraphParts}
use Rattle.octi_grid.specs.Walks.{PlainWalk}
use Rattle.segment_router.specs.declared.fault.RouteFault.{RouteFault}
use Rattle.kept_walks.specs.Drawings.{drawing_outcome, straightened_walks}
use Rattle.order_model.specs.declared.problem.ProblemParts.{ProblemParts}
use Rattle.order_values.specs.declared.rule.Rule.{Rule}
use Rattle.order_rules.specs.Untangling.{untangling}
use Rattle.order_terms.specs.Terms.{graph_terms}
use Rattle.order_terms.specs.Limits.{graph_problem}
use Rattle.map_faults.specs.declared.fault.MakeFault.{MakeFault}
use Rattle.map_faults.specs.declared.fault.MakeFault.TheVariants as fault
use Rattle.map_faults.specs.Faults.{of_route}

-- the problem of a graph's line orders: the lines of its segments and its terms
abbrev pub problem_of : List ℕ → Choices → GraphParts → ProblemParts
problem_of importance choices graph = record {
  segs = graph.lines;
  terms = graph_terms graph choices.weights
      importance;
}

-- the problem of a graph's line orders, unless there are too many terms
abbrev pub problem_within : List ℕ → Choices → GraphParts → Result ProblemParts Limit
problem_within importance choices graph = graph_problem graph choices.weights importance

-- the rules that untangle a problem
abbrev pub untangling_rules : ProblemParts → List Rule
untangling_rules p = (untangling p).0

-- the problem that they make, which is the one that is solved
abbrev pub untangled_problem : ProblemParts → ProblemParts
untangled_problem p = (untangling p).1

-- a graph with its walks and the problem of its line orders
pub record Drawn : Type 0 where
  pub graph : GraphParts
  pub walks : List PlainWalk
  pub problem : ProblemParts

-- what comes of a graph, its walks and its problem
abbrev pub drawn_with : GraphParts → List PlainWalk → Result ProblemParts Limit → Result Drawn MakeFault
drawn_with graph walks (Ok problem) = Ok (record { graph = graph; walks = walks; problem = problem })
drawn_with graph walks (Err limit) = Err (fault.Limit limit)

-- what comes of a graph and its drawing
abbrev pub routed_by : List ℕ → Choices → GraphParts → Result (List PlainWalk) RouteFault → Result Drawn MakeFault
routed_by importance choices graph (Ok walks) = drawn_with graph walks (problem_within importance choices graph)
routed_by importance choices graph (Err stop) = Err (of_route stop)

-- how line graphs are drawn by settings
abbrev pub drawing_plan : Choices → MethodChoices → DrawingPlan
drawing_plan choices method = record {
  cell = choices.cell;
  spread = method.spread;
  coarsest = method.coarsest;
  finest = method.finest;
  straight = method.straight;
}

-- The drawing of a line graph and the problem of its line orders: its walks come first, then its terms are counted.
abbrev pub drawn_on : List ℕ → Choices → MethodChoices → GraphParts → Result Drawn MakeFault
drawn_on importance choices method graph = routed_by importance choices graph
    (drawing_outcome graph (drawing_plan choices method))

-- a drawing after straightening, as the method says; its line graph and its problem stay
abbrev pub straightened_drawing : Choices → MethodChoices → Result Drawn MakeFault → Result Drawn MakeFault
straightened_drawing choices method (Ok drawn) =
    Ok (record drawn { walks = straightened_walks drawn.graph choices.cell method.straight drawn.walks })
straightened_drawing choices method (Err stop) = Err stop
