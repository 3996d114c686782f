-- The line orders of a problem, from the solved parts of its untangled problem.
use Rattle.std.specs.Prelude.{List}
use Rattle.map_base.specs.declared.ids.LineId.{LineId}
use Rattle.order_model.specs.declared.problem.ProblemParts.{ProblemParts}
use Rattle.order_rules.specs.Lifting.{lifted_all}
use Rattle.graph_maps.specs.Problems.{untangling_rules, untangled_problem}
use Rattle.graph_maps.specs.Solving.{SolvedPart, orders_by}

-- the orders of the untangled problem by its solved parts, lifted through the rules
abbrev pub lifted_by : ProblemParts → List SolvedPart → List (List LineId)
lifted_by p parts = lifted_all (untangling_rules p) (orders_by (untangled_problem p) parts)
