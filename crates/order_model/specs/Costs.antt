-- What orders cost.
use Rattle.std.specs.Prelude.{ℕ, ◌<◌, ◌≤◌, ◌==◌, Bool, true, false, ◌&&◌, ◌||◌, not, List, [], ◌∷◌, sum_by, if◌then◌else◌, IsPermutation}
use Rattle.map_base.specs.declared.ids.SegId.{SegId}
use Rattle.map_base.specs.declared.ids.LineId.{LineId}
use Rattle.order_model.specs.declared.term.Term.{Term}
use Rattle.order_model.specs.declared.term.Term.TheVariants.{Side, Link, Apart}
use Rattle.order_model.specs.Problems.{lines_on}

-- of two lines a comes before b in the order
abbrev pub comes_before : List LineId → LineId → LineId → Bool
comes_before [] a b = false
comes_before (x ∷ xs) a b = if x.0 == a.0 then true else if x.0 == b.0 then false else comes_before xs a b

-- two lines are these two, either way
abbrev pub are_these : LineId → LineId → LineId → LineId → Bool
are_these x y a b = (x.0 == a.0 && y.0 == b.0) || (x.0 == b.0 && y.0 == a.0)

-- two lines stand next to each other in the order
abbrev pub are_neighbours : List LineId → LineId → LineId → Bool
are_neighbours [] a b = false
are_neighbours (x ∷ []) a b = false
are_neighbours (x ∷ y ∷ rest) a b = are_these x y a b || are_neighbours (y ∷ rest) a b

-- two answers are the same
abbrev pub same_answer : Bool → Bool → Bool
same_answer true y = y
same_answer false y = not y

-- the segment of a term, the lesser of two
abbrev pub seg_of : Term → SegId
seg_of (Side seg first second w) = seg
seg_of (Link seg other flip a b w) = seg
seg_of (Apart seg other a b w) = seg

-- the other segment of a term, or its only one
abbrev pub other_of : Term → SegId
other_of (Side seg first second w) = seg
other_of (Link seg other flip a b w) = other
other_of (Apart seg other a b w) = other

-- a Side costs where the second line comes before the first. A Link costs where the two lines stand in one order
-- on both segments and it has a flip, or in opposite orders and it has none. An Apart costs where its two lines
-- are neighbours on exactly one of its segments
abbrev pub is_met_on : List LineId → List LineId → Term → Bool
is_met_on here there (Side seg first second w) = comes_before here second first
is_met_on here there (Link seg other flip a b w) = same_answer flip (same_answer (comes_before here a b) (comes_before there a b))
is_met_on here there (Apart seg other a b w) = not (same_answer (are_neighbours here a b) (are_neighbours there a b))

-- whether a term costs under the orders of all segments
abbrev pub is_met : List (List LineId) → Term → Bool
is_met orders t = is_met_on (lines_on orders (seg_of t)) (lines_on orders (other_of t)) t

-- the weight of a term
abbrev pub weight_of : Term → ℕ
weight_of (Side seg first second w) = w
weight_of (Link seg other flip a b w) = w
weight_of (Apart seg other a b w) = w

-- what a term costs where these are the orders of its segments
abbrev pub cost_on : List LineId → List LineId → Term → ℕ
cost_on here there t = if is_met_on here there t then weight_of t else 0

-- what a term costs under orders
abbrev pub term_cost : List (List LineId) → Term → ℕ
term_cost orders t = cost_on (lines_on orders (seg_of t)) (lines_on orders (other_of t)) t

-- the sum of the weights of all terms that cost something
abbrev pub cost_of : List Term → List (List LineId) → ℕ
cost_of terms orders = sum_by (term_cost orders) terms

-- a term can be read over n lists
abbrev pub IsReadable : ℕ → Term → Type 0
IsReadable n (Side seg first second w) = (seg.0 < n) × (w ≤ 256000)
IsReadable n (Link seg other flip a b w) = (seg.0 < n) × (other.0 < n) × (w ≤ 256000)
IsReadable n (Apart seg other a b w) = (seg.0 < n) × (other.0 < n) × (w ≤ 256000)

-- orders of segments: one list a segment, which has its lines in some order
abbrev pub AreOrders : List (List LineId) → List (List LineId) → Type 0
AreOrders [] [] = Unit {0}
AreOrders (lines ∷ segs) (order ∷ orders) = IsPermutation lines order × AreOrders segs orders
AreOrders [] (order ∷ orders) = ⊥
AreOrders (lines ∷ segs) [] = ⊥

-- no orders of these segments cost less
abbrev pub AreBest : List (List LineId) → List Term → List (List LineId) → Type 0
AreBest segs terms orders = (others : List (List LineId)) → AreOrders segs others → cost_of terms orders ≤ cost_of terms others
