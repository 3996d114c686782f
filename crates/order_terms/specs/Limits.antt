-- The problem of a line graph, and too many terms.
use Rattle.std.specs.Prelude.{◌≡◌, ℕ, ◌<◌, List, length, Result, Ok}
use Rattle.map_base.specs.declared.weights.Weights.{Weights}
use Rattle.map_base.specs.declared.limit.Limit.{Limit}
use Rattle.map_base.specs.declared.limit.LimitKind.TheVariants.{Terms}
use Rattle.map_base.specs.declared.limit_fault.LimitFault.{LimitFault}
use Rattle.map_base.specs.declared.limit_fault.LimitFault.TheVariants as fault
use Rattle.map_base.specs.Limits.{limit_of, unless_above}
use Rattle.graph_core.specs.declared.parts.GraphParts.{GraphParts}
use Rattle.order_model.specs.declared.problem.ProblemParts.{ProblemParts}
use Rattle.order_terms.specs.Terms.{graph_terms}

-- the problem of a line graph: the lines of its segments, and its terms, unless there are too many of them
abbrev pub graph_problem : GraphParts → List Weights → List ℕ → Result ProblemParts Limit
graph_problem g weights importance =
    unless_above Terms (length (graph_terms g weights importance)) (Ok (record { segs = g.lines; terms = graph_terms g weights importance }))

-- the fault is want of memory, or the limit where there are more than so many of these
abbrev pub IsAbove : ℕ → ℕ → LimitFault → Type 0
IsAbove most n (fault.Limit l) = (most < n) × (l ≡ limit_of Terms)
IsAbove most n fault.NoMemory = Unit {0}
