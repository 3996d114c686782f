-- What orders of one segment cost by pairs of lines: beside the orders of the others, and by how far they are from averages.
use Rattle.std.specs.Prelude.{ℕ, ◌+◌, ◌-◌, ◌==◌, Bool, ◌||◌, List, [], ◌∷◌, if◌then◌else◌}
use Rattle.std.specs.Prelude.{ℤ, pos, neg_ℤ, ◌-ℤ◌}
use Rattle.map_base.specs.declared.ids.SegId.{SegId}
use Rattle.map_base.specs.declared.ids.LineId.{LineId}
use Rattle.order_model.specs.declared.term.Term.{Term}
use Rattle.order_model.specs.declared.term.Term.TheVariants.{Side, Link, Apart}
use Rattle.order_model.specs.declared.problem.ProblemParts.{ProblemParts}
use Rattle.order_model.specs.Problems.{lines_on}
use Rattle.order_model.specs.Costs.{comes_before, are_neighbours, same_answer, term_cost}
use Rattle.least_orders.specs.OrderCosts.{PairCosts, summed_costs, no_costs, cost_before, cost_beside}
use Rattle.dual_bound.specs.ShareCosts.{costs_where}
use Rattle.dual_ascent.specs.declared.pair_average.PairAverage.{PairAverage}
use Rattle.dual_ascent.specs.Averages.{always}

-- a number of either sign that is added where the answer is no, and taken off where it is yes
abbrev pub less_where : Bool → ℕ → ℤ
less_where so w = if so then neg_ℤ (pos w) else pos w

-- what a Link makes its lines cost beside the order of its other segment: they are to stand there as its flip frees
abbrev pub link_beside : List LineId → Bool → LineId → LineId → ℕ → PairCosts
link_beside there flip a b w = if same_answer flip (comes_before there a b) then cost_before a b (pos w) else cost_before b a (pos w)

-- what a term with these other segments' orders makes pairs of lines of a segment cost
abbrev pub beside_costs : List (List LineId) → SegId → Term → PairCosts
beside_costs orders s (Side seg first second w) = costs_where (seg.0 == s.0) (cost_before second first (pos w))
beside_costs orders s (Link seg other flip a b w) =
    if seg.0 == s.0 then link_beside (lines_on orders other) flip a b w
    else if other.0 == s.0 then link_beside (lines_on orders seg) flip a b w
    else no_costs
beside_costs orders s (Apart seg other a b w) =
    if seg.0 == s.0 then cost_beside a b (less_where (are_neighbours (lines_on orders other) a b) w)
    else if other.0 == s.0 then cost_beside a b (less_where (are_neighbours (lines_on orders seg) a b) w)
    else no_costs

-- what it costs besides, whatever the order of the segment
abbrev pub fixed_cost : List (List LineId) → SegId → Term → ℕ
fixed_cost orders s (Side seg first second w) = if seg.0 == s.0 then 0 else term_cost orders (Side seg first second w)
fixed_cost orders s (Link seg other flip a b w) = if seg.0 == s.0 || other.0 == s.0 then 0 else term_cost orders (Link seg other flip a b w)
fixed_cost orders s (Apart seg other a b w) =
    if seg.0 == s.0 then (if are_neighbours (lines_on orders other) a b then w else 0)
    else if other.0 == s.0 then (if are_neighbours (lines_on orders seg) a b then w else 0)
    else term_cost orders (Apart seg other a b w)

-- what all terms make pairs of lines of a segment cost beside the orders of the others
abbrev pub costs_beside : ProblemParts → List (List LineId) → SegId → PairCosts
costs_beside p orders s = summed_costs (beside_costs orders s) p.terms

-- what the average of two lines makes them cost
abbrev pub distance_costs : PairAverage → PairCosts
distance_costs x =
    summed_costs (λ (c : PairCosts). c)
    (cost_before x.lesser x.greater (pos x.swapped) ∷ cost_before x.greater x.lesser (pos (always - x.swapped)) ∷ cost_beside x.lesser x.greater (pos 32768 -ℤ pos x.beside) ∷ [])
