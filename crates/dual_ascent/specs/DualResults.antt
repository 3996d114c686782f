-- What the search by dual prices finds in a part by itself.
use Rattle.std.specs.Prelude.{ℕ, ℤ, pos, negsuc, ◌+◌, ◌/◌, nat_le, Bool, true, false, ◌&&◌, List, [], if◌then◌else◌, Some}
use Rattle.map_base.specs.declared.ids.LineId.{LineId}
use Rattle.order_values.specs.DualTrees.{PlainDual, fork, stop}
use Rattle.order_model.specs.declared.problem.ProblemParts.{ProblemParts}
use Rattle.dual_bound.specs.Accepting.{shows, is_narrow, load_of, most_load}
use Rattle.dual_ascent.specs.OwnNumbers.{all_segments, zeros, listed}
use Rattle.dual_ascent.specs.LocalSearch.{first_incumbent}
use Rattle.dual_ascent.specs.Rounds.{Search, LowerBound, Ascent, Stage, going, over, spent, ascended}
use Rattle.dual_ascent.specs.Walks.{WalkedTree, forked, stopped, Progress, Walked, whole, cut, walked}

-- the tree of a walk that found this least cost: each fork whose own value shows it is a stop
abbrev pub collapsed : ℕ → WalkedTree → PlainDual
collapsed target (forked value prices seg a b first second) =
    if shows target (Some value) then stop prices else fork seg a b (collapsed target first) (collapsed target second)
collapsed target (stopped prices) = stop prices

-- the least whole number that is at least a thousandth of this, and at least 0
abbrev pub rounded_up : ℤ → ℕ
rounded_up (pos n) = (n + 999) / 1000
rounded_up (negsuc n) = 0

-- the part can be searched: no segment is too wide, and its load is within what a check takes
abbrev pub is_in_reach : ProblemParts → Bool
is_in_reach p = is_narrow p.segs (all_segments p) && nat_le (load_of p.segs (all_segments p)) most_load

-- what a search finds. Where it is complete, the target is the least cost, and that of the orders. Where it was spent, the
-- target is a lower bound, and the orders are the best that were met. The tree shows the target; the branch nodes are those
-- that the rounds counted
pub record DualResult : Type 0 where
  pub complete : Bool
  pub target : ℕ
  pub tree : PlainDual
  pub orders : List (List LineId)
  pub branches : ℕ

-- how many forks may lie on a way from the root to a stop
abbrev pub most_forks : ℕ
most_forks = 2048

-- how many rounds the root may have; each node below it has at most 200
abbrev pub root_rounds : ℕ
root_rounds = 1000

-- before the first node
abbrev pub first_progress : ProblemParts → Progress
first_progress p = record { incumbent = first_incumbent p; branches = 0 }

-- the last of the rounds
abbrev pub last_of : Stage → Ascent
last_of (going a) = a
last_of (over a) = a
last_of (spent a) = a

-- the bound of the root
abbrev pub root_bound : Search → LowerBound
root_bound q = (last_of (ascended q [] root_rounds (zeros q.problem) (first_incumbent q.problem) 0)).bound

-- the whole walk is made, or the root's bound is what is left of it
abbrev pub result_after : LowerBound → Walked → DualResult
result_after root (whole tree now) = record {
  complete = true;
  target = now.incumbent.cost;
  tree = collapsed now.incumbent.cost tree;
  orders = now.incumbent.orders;
  branches = now.branches;
}
result_after root (cut now) = record {
  complete = false;
  target = rounded_up root.value;
  tree = stop (listed root.prices);
  orders = now.incumbent.orders;
  branches = now.branches;
}

-- what the search finds in a part by itself within a budget
abbrev pub dual_result : ProblemParts → ℕ → DualResult
dual_result p budget =
    let q : Search = record { problem = p; budget = budget } in
    result_after (root_bound q) (walked q most_forks root_rounds [] (zeros p) (first_progress p))
