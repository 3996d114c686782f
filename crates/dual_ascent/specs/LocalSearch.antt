-- Orders that are met, and the local search from them: each segment takes its least order beside those of the others, until
-- no segment gains by it.
use Rattle.std.specs.Prelude.{ℕ, zero, suc, ℤ, pos, nat_lt, List, if◌then◌else◌, Option, Some, None, slice_set, fold}
use Rattle.map_base.specs.declared.ids.SegId.{SegId}
use Rattle.map_base.specs.declared.ids.LineId.{LineId}
use Rattle.order_model.specs.declared.problem.ProblemParts.{ProblemParts}
use Rattle.order_model.specs.Problems.{lines_on}
use Rattle.order_model.specs.Costs.{cost_of}
use Rattle.least_orders.specs.Arrangements.{all_orders}
use Rattle.least_orders.specs.LeastOrders.{first_least}
use Rattle.dual_ascent.specs.OwnNumbers.{all_segments}

-- the best orders that were met, with what they cost
pub record Incumbent : Type 0 where
  pub cost : ℕ
  pub orders : List (List LineId)

-- what all orders cost where a segment has this one
abbrev pub cost_with : ProblemParts → List (List LineId) → SegId → List LineId → ℤ
cost_with p orders s order = pos (cost_of p.terms (slice_set orders s.0 order))

-- the least order of a segment beside the orders of the others: of least cost, among these the least as a list
abbrev pub least_beside : ProblemParts → List (List LineId) → SegId → Option (List LineId)
least_beside p orders s = first_least (cost_with p orders s) (all_orders (lines_on p.segs s))

-- the same orders, but for this one of a segment
abbrev pub exchanged : List (List LineId) → SegId → Option (List LineId) → List (List LineId)
exchanged orders s None = orders
exchanged orders s (Some order) = slice_set orders s.0 order

-- of two orders of all segments those that cost less, of equals the first
abbrev pub cheaper : ProblemParts → List (List LineId) → List (List LineId) → List (List LineId)
cheaper p orders others = if nat_lt (cost_of p.terms others) (cost_of p.terms orders) then others else orders

-- a segment takes its least order, where that costs less
abbrev pub improved_on : ProblemParts → List (List LineId) → SegId → List (List LineId)
improved_on p orders s = cheaper p orders (exchanged orders s (least_beside p orders s))

-- a turn: all segments do, one after another
abbrev pub after_turn : ProblemParts → List (List LineId) → List (List LineId)
after_turn p orders = fold (improved_on p) orders (all_segments p)

-- turn after turn, as long as they change something, at most so many. What changes costs less
abbrev pub after_turns : ProblemParts → ℕ → List (List LineId) → List (List LineId)
after_turns p zero orders = orders
after_turns p (suc n) orders =
    if nat_lt (cost_of p.terms (after_turn p orders)) (cost_of p.terms orders) then after_turns p n (after_turn p orders) else orders

-- where the local search from these orders comes to: each turn that changes something lowers their cost, so there are no
-- more of these than they cost
abbrev pub local_minimum : ProblemParts → List (List LineId) → List (List LineId)
local_minimum p orders = after_turns p (cost_of p.terms orders) orders

-- these orders, with their cost
abbrev pub incumbent : ProblemParts → List (List LineId) → Incumbent
incumbent p orders = record { cost = cost_of p.terms orders; orders = orders }

-- the better of the incumbent and orders that are met, of equals the incumbent
abbrev pub after_meeting : ProblemParts → List (List LineId) → Incumbent → Incumbent
after_meeting p orders best = if nat_lt (cost_of p.terms orders) best.cost then incumbent p orders else best

-- orders are offered: those are met to which the local search comes from them
abbrev pub after_offer : ProblemParts → List (List LineId) → Incumbent → Incumbent
after_offer p orders best = after_meeting p (local_minimum p orders) best

-- the first incumbent: the number order is offered
abbrev pub first_incumbent : ProblemParts → Incumbent
first_incumbent p = incumbent p (local_minimum p p.segs)
