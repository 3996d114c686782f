-- What is found of a part of a problem, by the live tree or by dual prices, and why nothing is.
use Rattle.std.specs.Prelude.{◌≡◌, ℕ, ◌+◌, nat_le, Bool, true, false, ◌&&◌, if◌then◌else◌}
use Rattle.std.specs.Prelude.{List, None, Result, Ok, Err}
use Rattle.map_base.specs.declared.ids.SegId.{SegId}
use Rattle.map_base.specs.declared.ids.LineId.{LineId}
use Rattle.map_base.specs.declared.limit.LimitKind.TheVariants.{Places}
use Rattle.map_base.specs.Limits.{limit_of, is_within}
use Rattle.map_method.specs.declared.search.Search.{Search}
use Rattle.map_method.specs.declared.search.Search.TheVariants.{Live, Dual}
use Rattle.map_method.specs.declared.claim.Claim.{Claim}
use Rattle.map_method.specs.declared.claim.Claim.TheVariants.{Best, Bound}
use Rattle.order_model.specs.declared.problem.ProblemParts.{ProblemParts}
use Rattle.order_model.specs.PartTerms.{part_terms, part_numbers}
use Rattle.order_model.specs.Prefixes.{none_placed}
use Rattle.order_model.specs.Questions.{Question, question}
use Rattle.order_proof.specs.Plain.{PlainPartTree, by_cases, by_pairs, plain_part_tree}
use Rattle.order_proof.specs.Trees.{splits_of, IsPartTree}
use Rattle.order_bound.specs.Accepting as cases
use Rattle.dual_bound.specs.Accepting as pairs
use Rattle.dual_bound.specs.Accepting.{is_narrow, load_of, most_load}
use Rattle.dual_ascent.specs.DualResults.{DualResult, dual_result}
use Rattle.order_search.specs.declared.found.SearchFault.{SearchFault}
use Rattle.order_search.specs.declared.found.SearchFault.TheVariants as fault
use Rattle.order_search.specs.LiveTrees.{GrownTree, live_tree}
use Rattle.order_search.specs.FoundParts.{part_in}
use Rattle.order_search.specs.Finding.{places_of, IsLeast, AreAttained}
use Rattle.order_search.specs.ByItself.{by_itself}
use Rattle.kept_trees.specs.declared.plan.SearchPlan.{SearchPlan}
use Rattle.kept_trees.specs.declared.found_part.FoundPart.{FoundPart}
use Rattle.dual_ascent.specs.OwnNumbers.{all_segments}
use Rattle.kept_trees.specs.Renumbered.{is_by_pairs, renumbered_tree}

-- What is found of a part: a target that none of its orders cost less than, the tree that shows it, orders of the
-- part's segments, and the branch nodes of the search. Where the search is complete, the orders cost the target.
pub record PartResult : Type 0 where
  pub complete : Bool
  pub target : ℕ
  pub tree : PlainPartTree
  pub lists : List (List LineId)
  pub branches : ℕ

-- the live tree, whose branch nodes are its splits
abbrev pub by_live : GrownTree → PartResult
by_live grown = record {
  complete = true;
  target = grown.best.cost;
  tree = by_cases grown.tree;
  lists = grown.best.lists;
  branches = splits_of grown.tree;
}

-- what dual prices find in a part by itself
abbrev pub by_dual : DualResult → PartResult
by_dual r = record {
  complete = r.complete;
  target = r.target;
  tree = by_pairs r.tree;
  lists = r.orders;
  branches = r.branches;
}

-- the part is searched by dual prices: so it was asked, no segment is too wide, and the load is not too great
abbrev pub is_dual : Search → ProblemParts → List SegId → Bool
is_dual Live p part = false
is_dual Dual p part = is_narrow p.segs part && nat_le (load_of p.segs part) most_load

-- what the live search finds: nothing in a part that is over the limit of places, or over the budget
abbrev pub live_found : ℕ → PartResult → Result PartResult SearchFault
live_found budget r = if nat_le r.branches budget then Ok r else Err (fault.Spent (budget + 1))

abbrev pub live_outcome : ℕ → ProblemParts → List SegId → Result PartResult SearchFault
live_outcome budget p part =
    if is_within Places (places_of p.segs part) then live_found budget (by_live (live_tree (part_in p part)))
    else Err (fault.TooDeep (limit_of Places))

-- what is found of a part by itself, with the numbers of the problem in its tree
abbrev pub renumbered_result : List SegId → List ℕ → PartResult → PartResult
renumbered_result part numbers r = record r { tree = renumbered_tree part numbers r.tree }

-- what dual prices find within a budget in a part by itself, and in a part of a problem
abbrev pub dual_own : ℕ → ProblemParts → PartResult
dual_own budget own = by_dual (dual_result own budget)

abbrev pub dual_part : ℕ → ProblemParts → List SegId → PartResult
dual_part budget p part = renumbered_result part (part_numbers p.terms part) (dual_own budget (by_itself p part))

-- a search that is not complete is refused where best orders are claimed; where a bound is, its branch nodes are the
-- budget
abbrev pub dual_outcome : Claim → ℕ → PartResult → Result PartResult SearchFault
dual_outcome Best budget r = if r.complete then Ok r else Err (fault.Spent (budget + 1))
dual_outcome Bound budget r = Ok (if r.complete then r else record r { branches = budget })

-- so a search that can't come to its end leaves a bound where dual prices found it and a bound is claimed
abbrev pub leaves_bound : Claim → PlainPartTree → Bool
leaves_bound Best tree = false
leaves_bound Bound tree = is_by_pairs tree

-- what is found of a part of a problem, or why nothing is
abbrev pub part_outcome : SearchPlan → ProblemParts → List SegId → Result PartResult SearchFault
part_outcome plan p part =
    if is_dual plan.search p part then dual_outcome plan.claim plan.budget (dual_part plan.budget p part)
    else live_outcome plan.budget p part

-- the same of a part by itself, which has all segments of its problem
abbrev pub own_outcome : SearchPlan → ProblemParts → Result PartResult SearchFault
own_outcome plan own =
    if is_dual plan.search own (all_segments own) then dual_outcome plan.claim plan.budget (dual_own plan.budget own)
    else live_outcome plan.budget own (all_segments own)

-- the branch nodes that the search meets
abbrev pub branches_met : SearchPlan → ProblemParts → List SegId → ℕ
branches_met plan p part =
    if is_dual plan.search p part then (dual_part plan.budget p part).branches
    else (by_live (live_tree (part_in p part))).branches

abbrev pub own_branches : SearchPlan → ProblemParts → ℕ
own_branches plan own =
    if is_dual plan.search own (all_segments own) then (dual_own plan.budget own).branches
    else (by_live (live_tree (part_in own (all_segments own)))).branches

-- what was found, with its tree as a plain one
abbrev pub result_found : FoundPart → PartResult
result_found f = record {
  complete = f.complete;
  target = f.target;
  tree = plain_part_tree f.tree;
  lists = f.orders.lists;
  branches = f.branches;
}

-- no node of the tree fails for its target
abbrev pub IsAccepted : Question → PlainPartTree → Type 0
IsAccepted q (by_cases tree) = cases.failing q (none_placed q.segs) tree ≡ None
IsAccepted q (by_pairs tree) = pairs.failing q tree ≡ None

-- the orders cost the target where the search is complete, and something in any case
abbrev pub CostTarget : Bool → ℕ → ℕ → Type 0
CostTarget true target cost = cost ≡ target
CostTarget false target cost = Unit {0}

-- what comes of the part is found. No orders of the part cost less than the target, and the tree shows so; what was
-- found are orders of its segments, which cost the target where the search is complete
pub record IsFound (outcome : Result PartResult SearchFault) (p : ProblemParts) (part : List SegId) (f : FoundPart) :
    Type 0 where
  pub found : outcome ≡ Ok (result_found f)
  pub bound : IsLeast (part_in p part) f.target
  pub cost : ℕ
  pub attained : AreAttained (part_in p part) f.orders.lists cost
  pub costs : CostTarget f.complete f.target cost
  pub accepted : IsAccepted (question p.segs part (part_terms p.terms part) f.target) (plain_part_tree f.tree)
  pub of_proofs : IsPartTree (plain_part_tree f.tree)

-- of a part of a problem by its plan
abbrev pub IsResult : SearchPlan → ProblemParts → List SegId → FoundPart → Type 0
IsResult plan p part f = IsFound (part_outcome plan p part) p part f

-- what comes of a part by itself is found
abbrev pub IsOwnFound : SearchPlan → ProblemParts → FoundPart → Type 0
IsOwnFound plan own f = own_outcome plan own ≡ Ok (result_found f)

-- the fault is the one that comes by definition; want of memory is free
abbrev pub IsFaultOf : Result PartResult SearchFault → SearchFault → Type 0
IsFaultOf outcome fault.NoMemory = Unit {0}
IsFaultOf outcome (fault.Spent branches) = outcome ≡ Err (fault.Spent branches)
IsFaultOf outcome (fault.TooDeep limit) = outcome ≡ Err (fault.TooDeep limit)
