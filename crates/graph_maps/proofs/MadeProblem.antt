-- The problem of a line graph, where there are not too many terms.
use Rattle.std.proofs.Common.{◌≡◌, ℕ, Bool, true, false, cond, List, length, Ok, Err}
use Rattle.map_base.specs.declared.limit.LimitKind.TheVariants.{Terms}
use Rattle.map_base.specs.Limits.{is_within, limit_of}
use Rattle.map_base.specs.Settings.{Choices}
use Rattle.graph_core.specs.declared.parts.GraphParts.{GraphParts}
use Rattle.order_model.specs.declared.problem.ProblemParts.{ProblemParts}
use Rattle.graph_maps.specs.Problems.{problem_of, problem_within}

-- the problem that is there is the defined one
pub problem_is : (importance : List ℕ) (choices : Choices) (graph : GraphParts) (p : ProblemParts) → problem_within importance choices graph ≡ Ok p → p ≡ problem_of importance choices graph
problem_is importance choices graph p h = by (is_within Terms (length (problem_of importance choices graph).terms)) h
  where
    by : (b : Bool) → cond b (Ok (problem_of importance choices graph)) (Err (limit_of Terms)) ≡ Ok p → p ≡ problem_of importance choices graph
    by true e = cc
    by false e = cc
