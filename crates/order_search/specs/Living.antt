-- When a tree is live: each of its nodes, in the order of its text, is the one that is due at the best so far before it.
use Rattle.std.specs.Prelude.{◌≡◌, ℕ, ℤ, ◌<◌, ◌≤◌, List, Option, Some, None}
use Rattle.map_base.specs.declared.ids.SegId.{SegId}
use Rattle.map_base.specs.declared.ids.LineId.{LineId}
use Rattle.order_proof.specs.Plain.{PlainTree, split, close, Cases, no_case, case_of}
use Rattle.order_proof.specs.Trees.{lines_of}
use Rattle.order_model.specs.Prefixes.{none_placed}
use Rattle.order_model.specs.Completions.{placed_more}
use Rattle.order_search.specs.Left.{first_open}
use Rattle.order_search.specs.LiveTrees.{BoundedPart, Best, better, number_order, next_lines}

-- the best so far after a leaf, of which only complete prefixes count
abbrev pub best_after_leaf : BoundedPart → List (List LineId) → Option SegId → Best → Best
best_after_leaf q placed None best = better q placed best
best_after_leaf q placed (Some s) best = best

-- the best so far after the leaves of a tree
abbrev mutual
  pub best_after : BoundedPart → List (List LineId) → PlainTree → Best → Best
  best_after q placed (split s cases) best = best_after_cases q placed s cases best
  best_after q placed (close prices) best = best_after_leaf q placed (first_open q.segs q.part placed) best

  pub best_after_cases : BoundedPart → List (List LineId) → SegId → Cases → Best → Best
  best_after_cases q placed s no_case best = best
  best_after_cases q placed s (case_of a tree rest) best =
      best_after_cases q placed s rest (best_after q (placed_more q.segs placed s a) tree best)

-- a Split is due at the first segment with a line that is left, where the bound is below the best so far, with the
-- lines that are left there by bound, then by number
pub record IsSplitDue (q : BoundedPart) (placed : List (List LineId)) (best : Best) (s : SegId) (lines : List LineId) : Type 0 where
  pub first : first_open q.segs q.part placed ≡ Some s
  pub below : q.bound placed < best.cost
  pub next : lines ≡ next_lines q placed s

-- else a Close is due, with the prices of the prefix
pub record IsCloseDue (q : BoundedPart) (placed : List (List LineId)) (best : Best) (prices : List (ℕ × ℤ)) : Type 0 where
  pub closed : (s : SegId) → first_open q.segs q.part placed ≡ Some s → best.cost ≤ q.bound placed
  pub canonical : prices ≡ q.prices placed

-- each node of the tree of a prefix is due
abbrev mutual
  pub IsLiveAt : BoundedPart → List (List LineId) → Best → PlainTree → Type 0
  IsLiveAt q placed best (split s cases) = IsSplitDue q placed best s (lines_of cases) × AreLiveAt q placed best s cases
  IsLiveAt q placed best (close prices) = IsCloseDue q placed best prices

  pub AreLiveAt : BoundedPart → List (List LineId) → Best → SegId → Cases → Type 0
  AreLiveAt q placed best s no_case = Unit {0}
  AreLiveAt q placed best s (case_of a tree rest) =
      IsLiveAt q (placed_more q.segs placed s a) best tree × AreLiveAt q placed (best_after q (placed_more q.segs placed s a) tree best) s rest

-- the tree is live for the part: from no placed line, and the number order as the best so far
abbrev pub IsLive : BoundedPart → PlainTree → Type 0
IsLive q tree = IsLiveAt q (none_placed q.segs) (number_order q) tree
