-- Small segments, worked out by hand.
use Rattle.std.specs.Prelude.{◌≡◌, ℕ, ◌+◌, ◌*◌, List, [], ◌∷◌, refl, Some, None}
use Rattle.std.specs.Prelude.{ℤ, pos, negsuc}
use Rattle.map_base.specs.declared.ids.LineId.{LineId}
use Rattle.least_orders.specs.OrderCosts.{PairCosts, order_cost, cost_before, cost_beside, summed_costs}
use Rattle.least_orders.specs.Arrangements.{all_orders, keeps}
use Rattle.least_orders.specs.LeastOrders.{least_order, least_cost}
use Rattle.least_orders.specs.Rows.{Rows, row_lines, row_costs, row_pairs}

abbrev line : ℕ → LineId
line i = record { 0 = i }

abbrev order_of : ℕ → ℕ → ℕ → List LineId
order_of a b c = line a ∷ line b ∷ line c ∷ []

abbrev three : List LineId
three = order_of 2 5 7

-- six orders, the least list first
six : all_orders three ≡ order_of 2 5 7 ∷ order_of 2 7 5 ∷ order_of 5 2 7 ∷ order_of 5 7 2 ∷ order_of 7 2 5 ∷ order_of 7 5 2 ∷ []
six = refl

one_order_of_none : all_orders [] ≡ [] ∷ []
one_order_of_none = refl

-- 5 before 2 costs 4, 7 before 5 costs -3, 2 and 7 as neighbours cost 10
abbrev costs : PairCosts
costs = summed_costs (λ c. c) (cost_before (line 5) (line 2) (pos 4) ∷ cost_before (line 7) (line 5) (negsuc 2) ∷ cost_beside (line 2) (line 7) (pos 10) ∷ [])

apart_costs_nothing : order_cost costs (order_of 2 5 7) ≡ pos 0
apart_costs_nothing = refl

all_cost : order_cost costs (order_of 7 5 2) ≡ pos 1
all_cost = refl

neighbours_cost : order_cost costs (order_of 2 7 5) ≡ pos 7
neighbours_cost = refl

-- the first of all costs nothing, and none costs less
least_of_six : least_order costs [] three ≡ Some (order_of 2 5 7)
least_of_six = refl

-- with 7 before 5 one that costs 1 is left
settled_cost : least_cost costs ((line 7, line 5) ∷ []) three ≡ Some (pos 1)
settled_cost = refl

settled_order : least_order costs ((line 7, line 5) ∷ []) three ≡ Some (order_of 7 5 2)
settled_order = refl

-- of equals the least list
first_of_equals : least_order (cost_before (line 2) (line 5) (pos 1)) [] three ≡ Some (order_of 5 2 7)
first_of_equals = refl

-- no order keeps a ring of pairs
ring : least_order costs ((line 2, line 5) ∷ (line 5, line 7) ∷ (line 7, line 2) ∷ []) three ≡ None
ring = refl

-- Rows of two lines: 0 before 1 costs 6, 1 before 0 costs 2, and 0 has to stand before 1.
abbrev two : Rows
two = record { count = 2; before = pos 0 ∷ pos 6 ∷ pos 2 ∷ pos 0 ∷ []; beside = pos 0 ∷ pos 1 ∷ pos 1 ∷ pos 0 ∷ []; ahead = 0 ∷ 1 ∷ [] }

two_pairs : row_pairs two ≡ (line 0, line 1) ∷ []
two_pairs = refl

two_cost : least_cost (row_costs two) (row_pairs two) (row_lines two) ≡ Some (pos 7)
two_cost = refl
