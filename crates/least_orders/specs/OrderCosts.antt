-- What an order of the lines of one segment costs: by each two of its lines, and by those that are neighbours.
use Rattle.std.specs.Prelude.{ℕ, ◌==◌, ◌&&◌, List, [], ◌∷◌, if◌then◌else◌}
use Rattle.std.specs.Prelude.{ℤ, pos, ◌+ℤ◌, ◌-ℤ◌}
use Rattle.map_base.specs.declared.ids.LineId.{LineId}
use Rattle.order_model.specs.Costs.{are_these}
use Rattle.whole_sums.specs.Sums.{int_sum}

-- what two lines cost where the first of them stands before the second, and what they cost besides where it stands
-- right before it
pub record PairCosts : Type 0 where
  pub before : LineId → LineId → ℤ
  pub beside : LineId → LineId → ℤ

-- what a line costs with its right neighbour, the first of those behind it
abbrev pub beside_next : PairCosts → LineId → List LineId → ℤ
beside_next costs a [] = pos 0
beside_next costs a (b ∷ rest) = costs.beside a b

-- what an order costs: each line with all that stand behind it, and with its right neighbour
abbrev pub order_cost : PairCosts → List LineId → ℤ
order_cost costs [] = pos 0
order_cost costs (a ∷ rest) = (int_sum (costs.before a) rest +ℤ beside_next costs a rest) +ℤ order_cost costs rest

-- Costs made of others.

-- the sum of the costs of these
abbrev pub summed_costs : {A : Type 0} → (A → PairCosts) → List A → PairCosts
summed_costs costs xs = record { before = λ a b. int_sum (λ x. (costs x).before a b) xs; beside = λ a b. int_sum (λ x. (costs x).beside a b) xs }

-- the one less the other
abbrev pub less_costs : PairCosts → PairCosts → PairCosts
less_costs c d = record { before = λ a b. c.before a b -ℤ d.before a b; beside = λ a b. c.beside a b -ℤ d.beside a b }

-- nothing costs anything
abbrev pub no_costs : PairCosts
no_costs = record { before = λ a b. pos 0; beside = λ a b. pos 0 }

-- two lines cost so much where the first stands before the second
abbrev pub cost_before : LineId → LineId → ℤ → PairCosts
cost_before a b c = record { before = λ u v. if u.0 == a.0 && v.0 == b.0 then c else pos 0; beside = λ u v. pos 0 }

-- they cost so much where they are neighbours
abbrev pub cost_beside : LineId → LineId → ℤ → PairCosts
cost_beside a b c = record { before = λ u v. pos 0; beside = λ u v. if are_these u v a b then c else pos 0 }
