-- What is kept from map to map: what was found of parts, each part by itself.
use Rattle.std.specs.Prelude.{ℕ, not, List, [], map, filter, sum_by, All, Contains, Result, Ok, Err}
use Rattle.std.specs.List.{take_while}
use Rattle.map_base.specs.declared.ids.SegId.{SegId}
use Rattle.map_base.specs.Settings.{Choices}
use Rattle.map_method.specs.Methods.{MethodChoices}
use Rattle.graph_core.specs.declared.parts.GraphParts.{GraphParts}
use Rattle.order_model.specs.declared.problem.ProblemParts.{ProblemParts}
use Rattle.kept_trees.specs.declared.plan.SearchPlan.{SearchPlan}
use Rattle.kept_trees.specs.Results.{branches_met}
use Rattle.kept_trees.specs.OwnTrees.{HeldPart, held_as}
use Rattle.kept_trees.specs.Keeping.{is_held}
use Rattle.map_faults.specs.declared.fault.MakeFault.{MakeFault}
use Rattle.map_faults.specs.declared.fault.MakeFault.TheVariants as fault
use Rattle.graph_maps.specs.Problems.{Drawn, drawn_on, untangled_problem}
use Rattle.graph_maps.specs.Solving.{parts_in, is_solvable}
use Rattle.graph_maps.specs.Making.{plan_of}

-- the parts of a problem, each by itself, before the first that is not solved; or all
abbrev pub finished_of : SearchPlan → ProblemParts → List HeldPart
finished_of plan p = map (held_as plan p) (take_while (is_solvable plan p) (parts_in p))

-- the parts that a map finishes: those of the untangled problem before the first that is not solved, or all; none where
-- there is no problem
abbrev pub finished_in : SearchPlan → Result Drawn MakeFault → List HeldPart
finished_in plan (Err stop) = []
finished_in plan (Ok drawn) = finished_of plan (untangled_problem drawn.problem)

abbrev pub finished_on : List ℕ → Choices → MethodChoices → GraphParts → List HeldPart
finished_on importance choices method graph = finished_in (plan_of choices method)
    (drawn_on importance choices method graph)

-- every part that the map finishes is held afterwards, unless memory ran out
abbrev pub HoldsFinished : {X : Type 0} → Result X MakeFault → List HeldPart → List HeldPart → Type 0
HoldsFinished (Err fault.NoMemory) finished held = Unit {0}
HoldsFinished result finished held = All (Contains held) finished

-- the parts of a problem that are not held
abbrev pub parts_missing : List HeldPart → SearchPlan → ProblemParts → List (List SegId)
parts_missing held plan p = filter (λ part. not (is_held held (held_as plan p part))) (parts_in p)

-- how many branch nodes their searches meet
abbrev pub missing_branches : List HeldPart → SearchPlan → Result Drawn MakeFault → ℕ
missing_branches held plan (Err stop) = 0
missing_branches held plan (Ok drawn) = let p = untangled_problem drawn.problem in sum_by (branches_met plan p)
    (parts_missing held plan p)

-- how many branch nodes the searches of those parts of a line graph's untangled problem meet that are not held
abbrev pub left_on : List HeldPart → List ℕ → Choices → MethodChoices → GraphParts → ℕ
left_on held importance choices method graph = missing_branches held (plan_of choices method)
    (drawn_on importance choices method graph)
