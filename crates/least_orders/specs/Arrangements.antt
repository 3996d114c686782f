-- All orders of some lines, and those that keep settled pairs.
use Rattle.std.specs.Prelude.{ℕ, zero, suc, Bool, List, [], ◌∷◌, length, map, filter}
use Rattle.std.specs.List.{flat_map, list_all}
use Rattle.map_base.specs.declared.ids.LineId.{LineId}
use Rattle.order_model.specs.Costs.{comes_before}

-- each line of these, with the others in their order
abbrev pub picks : List LineId → List (LineId × List LineId)
picks [] = []
picks (a ∷ rest) = (a, rest) ∷ map (λ (p : LineId × List LineId). (p.0, a ∷ p.1)) (picks rest)

-- all orders of so many lines, those first that begin with an earlier line
abbrev pub orders_of : ℕ → List LineId → List (List LineId)
orders_of zero lines = [] ∷ []
orders_of (suc n) lines = flat_map (λ (p : LineId × List LineId). map (λ (order : List LineId). p.0 ∷ order) (orders_of n p.1)) (picks lines)

-- all orders of these lines: where the lines rise, from the least list to the greatest
abbrev pub all_orders : List LineId → List (List LineId)
all_orders lines = orders_of (length lines) lines

-- the order has the first line of each of these pairs before the second
abbrev pub keeps : List (LineId × LineId) → List LineId → Bool
keeps settled order = list_all (λ (p : LineId × LineId). comes_before order p.0 p.1) settled

-- the orders that do
abbrev pub kept_orders : List (LineId × LineId) → List LineId → List (List LineId)
kept_orders settled lines = filter (keeps settled) (all_orders lines)
