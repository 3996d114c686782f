-- Settings that are alike in what a map depends on make the same map.
use Rattle.std.proofs.Common.{◌≡◌, ◌∙◌, ap, refl, ℕ, List, Result, Ok, Err}
use Rattle.map_base.specs.declared.weights.Weights.{Weights}
use Rattle.map_base.specs.Settings.{Choices}
use Rattle.map_method.specs.Methods.{MethodChoices}
use Rattle.graph_core.specs.declared.parts.GraphParts.{GraphParts}
use Rattle.octi_grid.specs.Walks.{PlainWalk}
use Rattle.segment_router.specs.declared.fault.RouteFault.{RouteFault}
use Rattle.kept_walks.specs.Drawings.{drawing_outcome}
use Rattle.order_terms.specs.Limits.{graph_problem}
use Rattle.kept_trees.specs.declared.plan.SearchPlan.{SearchPlan}
use Rattle.map_faults.specs.declared.fault.MakeFault.{MakeFault}
use Rattle.graph_maps.specs.Subjects.{Subject}
use Rattle.graph_maps.specs.Problems.{Drawn, drawing_plan, drawn_with, drawn_on, routed_by, untangled_problem}
use Rattle.graph_maps.specs.Solving.{solve_outcome}
use Rattle.graph_maps.specs.Making.{if_solved, made_on, solved_map, solved_of, solved_with}

-- a plan with this budget
abbrev plan_with : MethodChoices → ℕ → SearchPlan
plan_with method budget = record { search = method.search; claim = method.claim; budget = budget }

routed_alike : (importance : List ℕ) (some other : Choices) (graph : GraphParts)
    (o : Result (List PlainWalk) RouteFault)
    → some.weights ≡ other.weights → routed_by importance some graph o ≡ routed_by importance other graph o
routed_alike importance some other graph (Ok walks) weights =
    ap (λ (ws : List Weights). drawn_with graph walks (graph_problem graph ws importance)) weights
routed_alike importance some other graph (Err stop) weights = refl

solved_alike : (some other : Choices) (method : MethodChoices) (o : Result Drawn MakeFault)
    → some.budget ≡ other.budget → solved_of some method o ≡ solved_of other method o
solved_alike some other method (Ok drawn) budget = ap (λ (b : ℕ). solved_with method.moves drawn
    (solve_outcome (plan_with method b) (untangled_problem drawn.problem))) budget
solved_alike some other method (Err stop) budget = refl

pub made_the_same : (subject : Subject) (some other : Choices) (method : MethodChoices) (graph : GraphParts)
    → some.weights ≡ other.weights → some.cell ≡ other.cell → some.budget ≡ other.budget
    → made_on subject some method graph ≡ made_on subject other method graph
made_the_same subject some other method graph weights cell budget =
    let drawn : drawn_on subject.importance some method graph ≡ drawn_on subject.importance other method graph =
    ap (λ (n : ℕ). routed_by subject.importance some graph (drawing_outcome graph (record (drawing_plan some method) { cell = n }))) cell
    ∙ routed_alike subject.importance some other graph
    (drawing_outcome graph (drawing_plan other method)) weights in
    ap (λ (o : Result Drawn MakeFault). if_solved (solved_map subject) (solved_of some method o)) drawn
    ∙ ap (if_solved (solved_map subject))
    (solved_alike some other method (drawn_on subject.importance other method graph) budget)
