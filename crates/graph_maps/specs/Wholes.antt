-- A drawing whose parts are solved.
use Rattle.std.specs.Prelude.{◌≡◌, ℕ, List, length, true, Ok}
use Rattle.std.specs.List.{AllByRecursion}
use Rattle.map_base.specs.Settings.{Choices}
use Rattle.octi_grid.specs.Legal.{legal}
use Rattle.kept_trees.specs.declared.plan.SearchPlan.{SearchPlan}
use Rattle.order_model.specs.Problems.{IsProblem}
use Rattle.order_model.specs.Costs.{AreOrders}
use Rattle.graph_maps.specs.Problems.{Drawn, problem_of, problem_within, untangled_problem}
use Rattle.graph_maps.specs.Solving.{SolvedPart, solve_outcome, orders_by}
use Rattle.graph_maps.specs.Stages.{IsShown}

-- what is known of a drawing whose untangled problem has its parts solved: it is legal, with
-- a walk for each segment, and what the search finds of each part shows its target
pub record IsWhole (plan : SearchPlan) (importance : List ℕ) (choices : Choices) (drawn : Drawn)
    (parts : List SolvedPart) : Type 0 where
  pub each : length drawn.walks ≡ length drawn.graph.ends
  pub legal : legal drawn.graph drawn.walks ≡ true
  pub counted : problem_within importance choices drawn.graph ≡ Ok drawn.problem
  pub defined : drawn.problem ≡ problem_of importance choices drawn.graph
  pub fits : IsProblem drawn.problem
  pub solved : solve_outcome plan (untangled_problem drawn.problem) ≡ Ok parts
  pub ordered : AreOrders (untangled_problem drawn.problem).segs (orders_by (untangled_problem drawn.problem) parts)
  pub shown : AllByRecursion (IsShown plan (untangled_problem drawn.problem)) parts
