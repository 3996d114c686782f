-- The parts of a problem, each solved by a search.
use Rattle.std.specs.Prelude.{ℕ, ◌+◌, Bool, true, false, List, [], ◌∷◌, Result, Ok, Err}
use Rattle.map_base.specs.declared.ids.SegId.{SegId}
use Rattle.map_base.specs.declared.ids.LineId.{LineId}
use Rattle.order_model.specs.declared.problem.ProblemParts.{ProblemParts}
use Rattle.order_model.specs.Gathering.{problem_parts}
use Rattle.order_proof.specs.Plain.{PlainPartTree}
use Rattle.order_search.specs.declared.found.SearchFault.{SearchFault}
use Rattle.order_search.specs.declared.found.SearchFault.TheVariants as search
use Rattle.order_search.specs.Finding.{with_lists}
use Rattle.kept_trees.specs.declared.plan.SearchPlan.{SearchPlan}
use Rattle.kept_trees.specs.Results.{PartResult, part_outcome}
use Rattle.map_faults.specs.declared.fault.MakeFault.{MakeFault}
use Rattle.map_faults.specs.declared.fault.MakeFault.TheVariants as make

-- why part k is not solved
abbrev pub of_search : ℕ → SearchFault → MakeFault
of_search k (search.Spent branches) = make.Spent k branches
of_search k (search.TooDeep l) = make.Limit l
of_search k search.NoMemory = make.NoMemory

-- a part is solved where its search finds something
abbrev pub is_found : Result PartResult SearchFault → Bool
is_found (Ok r) = true
is_found (Err why) = false

abbrev pub is_solvable : SearchPlan → ProblemParts → List SegId → Bool
is_solvable plan p part = is_found (part_outcome plan p part)

-- a part with what its search finds: what none of its orders cost less than, the tree that shows it, and the orders of
-- its segments that are printed
pub record SolvedPart : Type 0 where
  pub segs : List SegId
  pub target : ℕ
  pub tree : PlainPartTree
  pub lists : List (List LineId)

abbrev pub solved : List SegId → PartResult → SolvedPart
solved part r = record { segs = part; target = r.target; tree = r.tree; lists = r.lists }

-- a solved part before others
abbrev pub with_solved : SolvedPart → Result (List SolvedPart) MakeFault → Result (List SolvedPart) MakeFault
with_solved first (Ok later) = Ok (first ∷ later)
with_solved first (Err stop) = Err stop

-- part k by what its search finds, before what comes of those after it; or why it is not solved
abbrev pub solved_first : ℕ → List SegId → Result PartResult SearchFault → Result (List SolvedPart) MakeFault
    → Result (List SolvedPart) MakeFault
solved_first k part (Ok r) later = with_solved (solved part r) later
solved_first k part (Err why) later = Err (of_search k why)

-- all parts, from part k on, solved in turn; or why the first that is not solved is none
abbrev pub solve_from : SearchPlan → ProblemParts → ℕ → List (List SegId) → Result (List SolvedPart) MakeFault
solve_from plan p k [] = Ok []
solve_from plan p k (part ∷ parts) = solved_first k part (part_outcome plan p part) (solve_from plan p (k + 1) parts)

-- the parts of a problem
abbrev pub parts_in : ProblemParts → List (List SegId)
parts_in p = problem_parts p.segs p.terms

-- all parts of a problem, solved in turn
abbrev pub solve_outcome : SearchPlan → ProblemParts → Result (List SolvedPart) MakeFault
solve_outcome plan p = solve_from plan p 0 (parts_in p)

-- orders in which the segments of solved parts have the orders that were found
abbrev pub with_parts : List SolvedPart → List (List LineId) → List (List LineId)
with_parts [] orders = orders
with_parts (s ∷ later) orders = with_parts later (with_lists s.segs s.lists orders)

-- the orders of a problem by its solved parts: where a segment is of no part, its lines in their number order
abbrev pub orders_by : ProblemParts → List SolvedPart → List (List LineId)
orders_by p parts = with_parts parts p.segs
