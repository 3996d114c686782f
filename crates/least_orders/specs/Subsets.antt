-- The least order by sets of lines that stand first. A set is a number, with a bit for the place of each of its lines.
use Rattle.std.specs.Prelude.{ℕ, zero, suc, ◌+◌, ◌^◌, ◌==◌, Bool, true, not, ◌&&◌, List, [], ◌∷◌, filter, slice_index, if◌then◌else◌, Option, Some, None}
use Rattle.std.specs.Prelude.{ℤ, pos, ◌+ℤ◌, int_lt, bit_and, bit_or}
use Rattle.std.specs.Int.{bit_at}
use Rattle.std.specs.List.{list_any}
use Rattle.std.specs.Option.{option_map}
use Rattle.map_base.specs.declared.ids.LineId.{LineId}
use Rattle.whole_sums.specs.Sums.{int_sum}
use Rattle.least_orders.specs.declared.choice.Choice.{Choice}
use Rattle.least_orders.specs.OrderCosts.{PairCosts, beside_next, order_cost}
use Rattle.least_orders.specs.Arrangements.{all_orders}
use Rattle.least_orders.specs.LeastOrders.{first_least}
use Rattle.least_orders.specs.Rows.{Rows, line_at, entry, row_costs, is_ahead}

-- the set has the line at this place
abbrev pub has_place : ℕ → ℕ → Bool
has_place set k = bit_at set k == 1

-- the set with one line more
abbrev pub with_place : ℕ → ℕ → ℕ
with_place set k = bit_or set (2 ^ k)

-- those of so many lines, from a place on, that the set has not
abbrev pub left_from : ℕ → ℕ → ℕ → List LineId
left_from set k zero = []
left_from set k (suc n) = if has_place set k then left_from set (k + 1) n else line_at k ∷ left_from set (k + 1) n

abbrev pub left : Rows → ℕ → List LineId
left r set = left_from set 0 r.count

-- no line stands before one that has to be ahead of it
abbrev pub is_kept : Rows → List LineId → Bool
is_kept r [] = true
is_kept r (a ∷ order) = not (list_any (λ (b : LineId). is_ahead r b a) order) && is_kept r order

-- what an order costs behind a line, if there is one
abbrev pub cost_after : PairCosts → Option ℕ → List LineId → ℤ
cost_after costs None order = order_cost costs order
cost_after costs (Some l) order = beside_next costs (line_at l) order +ℤ order_cost costs order

-- of the orders of all lines that a set has not the least behind this line
abbrev pub best_after : Rows → ℕ → Option ℕ → Option (List LineId)
best_after r set last = first_least (cost_after (row_costs r) last) (filter (is_kept r) (all_orders (left r set)))

-- what it costs
abbrev pub rest_cost : Rows → ℕ → Option ℕ → Option ℤ
rest_cost r set last = option_map (cost_after (row_costs r) last) (best_after r set last)

-- the set has all lines that have to stand before this one
abbrev pub is_ready : Rows → ℕ → ℕ → Bool
is_ready r set k = bit_and (slice_index r.ahead k) set == slice_index r.ahead k

-- what a line costs with those that a set has not
abbrev pub before_left : Rows → ℕ → ℕ → ℤ
before_left r set k = int_sum (entry r.count r.before (line_at k)) (left r set)

-- what the orders that go on with this line cost at least, but for what it costs beside the last one
abbrev pub first_cost : Rows → ℕ → ℕ → Option ℤ
first_cost r set k =
    if has_place set k then None
    else if is_ready r set k then option_map (λ v. v +ℤ before_left r (with_place set k) k) (rest_cost r (with_place set k) (Some k))
    else None

-- what a line costs beside the last one, if there is one
abbrev pub beside_last : Rows → Option ℕ → ℕ → ℤ
beside_last r None k = pos 0
beside_last r (Some l) k = entry r.count r.beside (line_at l) (line_at k)

-- a line to go on with, with what the orders that do cost at least behind the last one
abbrev pub choice_of : Rows → Option ℕ → ℕ → Option ℤ → Option Choice
choice_of r last k None = None
choice_of r last k (Some v) = Some (record { place = k; cost = v +ℤ beside_last r last k })

-- the better of two choices, of equals the first
abbrev pub better_choice : Option Choice → Option Choice → Option Choice
better_choice None other = other
better_choice (Some x) None = Some x
better_choice (Some x) (Some y) = if int_lt y.cost x.cost then Some y else Some x

-- the best of so many lines, from a place on
abbrev pub choice_from : Rows → ℕ → Option ℕ → ℕ → ℕ → Option Choice
choice_from r set last k zero = None
choice_from r set last k (suc n) = better_choice (choice_of r last k (first_cost r set k)) (choice_from r set last (k + 1) n)

abbrev pub choice : Rows → ℕ → Option ℕ → Option Choice
choice r set last = choice_from r set last 0 r.count
