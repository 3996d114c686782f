-- The least of several orders.
use Rattle.std.specs.Prelude.{ℕ, Bool, List, [], ◌∷◌, Option, Some, None, if◌then◌else◌}
use Rattle.std.specs.Prelude.{ℤ, int_lt}
use Rattle.std.specs.Int.{int_min}
use Rattle.std.specs.Option.{option_map}
use Rattle.map_base.specs.declared.ids.LineId.{LineId}
use Rattle.least_orders.specs.OrderCosts.{PairCosts, order_cost}
use Rattle.least_orders.specs.Arrangements.{kept_orders}

-- the lesser of a number and another, if there is another
abbrev pub lesser_of : ℤ → Option ℤ → ℤ
lesser_of v None = v
lesser_of v (Some w) = int_min v w

-- the least value over these, none where there are none
abbrev pub least_value : {A : Type 0} → (A → ℤ) → List A → Option ℤ
least_value value [] = None
least_value value (x ∷ xs) = Some (lesser_of (value x) (least_value value xs))

-- of one and the best of those behind it the one that has less, of equals the first
abbrev pub first_of : {A : Type 0} → (A → ℤ) → A → Option A → A
first_of value x None = x
first_of value x (Some y) = if int_lt (value y) (value x) then y else x

-- the first that has the least value
abbrev pub first_least : {A : Type 0} → (A → ℤ) → List A → Option A
first_least value [] = None
first_least value (x ∷ xs) = Some (first_of value x (first_least value xs))

-- the least order of these lines: of those that keep the settled pairs one of least cost, and among these the least as a
-- list, where the lines rise; none where no order keeps them
abbrev pub least_order : PairCosts → List (LineId × LineId) → List LineId → Option (List LineId)
least_order costs settled lines = first_least (order_cost costs) (kept_orders settled lines)

-- what it costs
abbrev pub least_cost : PairCosts → List (LineId × LineId) → List LineId → Option ℤ
least_cost costs settled lines = least_value (order_cost costs) (kept_orders settled lines)
