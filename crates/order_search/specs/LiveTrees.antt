-- The live tree of a part: a prefix is split where it is not complete and its bound is below the best so far.
use Rattle.std.specs.Prelude.{ℕ, zero, suc, ℤ, nat_lt, List, [], ◌∷◌, map, if◌then◌else◌, Option, Some, None}
use Rattle.map_base.specs.declared.ids.SegId.{SegId}
use Rattle.map_base.specs.declared.ids.LineId.{LineId}
use Rattle.order_model.specs.Problems.{lines_on}
use Rattle.order_proof.specs.Plain.{PlainTree, split, close, cases_of}
use Rattle.order_model.specs.Prefixes.{none_placed}
use Rattle.order_model.specs.Completions.{placed_more}
use Rattle.order_search.specs.declared.child.Child.{Child}
use Rattle.order_search.specs.Left.{first_open, lines_left, room_of}
use Rattle.order_search.specs.Children.{in_order, lines_in}

-- a part to search: the segments of its problem and its own, what orders cost on it, and the bound and the prices of
-- each prefix, which is told by the lines placed on each segment
pub record BoundedPart : Type 0 where
  pub segs : List (List LineId)
  pub part : List SegId
  pub cost : List (List LineId) → ℕ
  pub bound : List (List LineId) → ℕ
  pub prices : List (List LineId) → List (ℕ × ℤ)

-- the least cost so far, and the orders of the part's segments that had it first
pub record Best : Type 0 where
  pub cost : ℕ
  pub lists : List (List LineId)

-- what these orders cost, and their lists on the part
abbrev pub best_at : BoundedPart → List (List LineId) → Best
best_at q orders = record { cost = q.cost orders; lists = map (λ s. lines_on orders s) q.part }

-- orders that cost less than the best so far are the best; of those that cost the same the first ones stay
abbrev pub better : BoundedPart → List (List LineId) → Best → Best
better q orders best = if nat_lt (q.cost orders) best.cost then best_at q orders else best

-- the number order is the best at first: lines rise on each segment
abbrev pub number_order : BoundedPart → Best
number_order q = best_at q q.segs

-- the child that places this line next on a segment
abbrev pub child_at : BoundedPart → List (List LineId) → SegId → LineId → Child
child_at q placed s a = record { bound = q.bound (placed_more q.segs placed s a); line = a }

-- the lines that are left on a segment, by the bound of the prefix in which each is placed next, then by number
abbrev pub next_lines : BoundedPart → List (List LineId) → SegId → List LineId
next_lines q placed s = lines_in (in_order (map (child_at q placed s) (lines_left (lines_on q.segs s) (lines_on placed s))))

-- a tree, and the best after its leaves
pub record GrownTree : Type 0 where
  pub tree : PlainTree
  pub best : Best

-- the cases of a split, and the best after their leaves
pub record GrownCases : Type 0 where
  pub cases : List (LineId × PlainTree)
  pub best : Best

-- a case before others that were grown after it
abbrev pub with_case : LineId → GrownTree → GrownCases → GrownCases
with_case a first rest = record { cases = (a, first.tree) ∷ rest.cases; best = rest.best }

-- the cases of a split, one after the other, each from the best after those before it
abbrev pub grow_cases : (List (List LineId) → Best → GrownTree) → BoundedPart → List (List LineId) → SegId → List LineId → Best → GrownCases
grow_cases next q placed s [] best = record { cases = []; best = best }
grow_cases next q placed s (a ∷ lines) best =
    let first : GrownTree = next (placed_more q.segs placed s a) best in
    with_case a first (grow_cases next q placed s lines first.best)

-- a split with these cases
abbrev pub split_with : SegId → GrownCases → GrownTree
split_with s grown = record { tree = split s (cases_of grown.cases); best = grown.best }

-- a prefix that is closed, and the best after it
abbrev pub closed_with : BoundedPart → List (List LineId) → Best → GrownTree
closed_with q placed best = record { tree = close (q.prices placed); best = best }

-- the node of a prefix, which is complete, or leaves a line on this segment first
abbrev pub live_node : (List (List LineId) → Best → GrownTree) → BoundedPart → List (List LineId) → Option SegId → Best → GrownTree
live_node next q placed None best = closed_with q placed (better q placed best)
live_node next q placed (Some s) best =
    if nat_lt (q.bound placed) best.cost then split_with s (grow_cases next q placed s (next_lines q placed s) best)
    else closed_with q placed best

-- the tree of a prefix, of so many levels at most
abbrev pub live_within : ℕ → BoundedPart → List (List LineId) → Best → GrownTree
live_within zero q placed best = closed_with q placed (better q placed best)
live_within (suc n) q placed best = live_node (live_within n q) q placed (first_open q.segs q.part placed) best

-- the tree of a prefix: there are no more levels than lines that are left
abbrev pub live_at : BoundedPart → List (List LineId) → Best → GrownTree
live_at q placed best = live_within (room_of q.segs q.part placed) q placed best

-- the live tree of a part, and the orders that it finds
abbrev pub live_tree : BoundedPart → GrownTree
live_tree q = live_at q (none_placed q.segs) (number_order q)
