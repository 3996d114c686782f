-- Shares by pairs of lines: what an order of one segment adds under prices is what it costs under these.
use Rattle.std.specs.Prelude.{ℕ, ◌*◌, ◌==◌, Bool, List, if◌then◌else◌}
use Rattle.std.specs.Prelude.{ℤ, pos}
use Rattle.map_base.specs.declared.ids.SegId.{SegId}
use Rattle.map_base.specs.declared.ids.LineId.{LineId}
use Rattle.order_model.specs.declared.term.Term.{Term}
use Rattle.order_model.specs.declared.term.Term.TheVariants.{Side, Link, Apart}
use Rattle.least_orders.specs.OrderCosts.{PairCosts, summed_costs, less_costs, no_costs, cost_before, cost_beside}
use Rattle.dual_bound.specs.Shares.{thousand}

-- the costs where the answer is yes, else none
abbrev pub costs_where : Bool → PairCosts → PairCosts
costs_where so costs = if so then costs else no_costs

-- the price of a Link at its other segment
abbrev pub link_costs : Bool → LineId → LineId → ℤ → PairCosts
link_costs flip a b p = if flip then cost_before a b p else cost_before b a p

-- what a term makes pairs of lines cost on a segment
abbrev pub term_costs : ℤ → SegId → Term → PairCosts
term_costs p s (Side seg first second w) = costs_where (seg.0 == s.0) (cost_before second first (pos (thousand * w)))
term_costs p s (Link seg other flip a b w) = less_costs (costs_where (other.0 == s.0) (link_costs flip a b p)) (costs_where (seg.0 == s.0) (cost_before b a p))
term_costs p s (Apart seg other a b w) = less_costs (costs_where (other.0 == s.0) (cost_beside a b p)) (costs_where (seg.0 == s.0) (cost_beside a b p))

-- what all terms do, each under the price of its number
abbrev pub share_costs : List (ℕ × Term) → (ℕ → ℤ) → SegId → PairCosts
share_costs terms price s = summed_costs (λ (t : ℕ × Term). term_costs (price t.0) s t.1) terms
