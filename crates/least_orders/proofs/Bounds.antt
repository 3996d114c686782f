-- How great the costs of orders by rows may be.
use Rattle.std.proofs.Common.{◌≡◌, ℕ, zero, suc, ◌+◌, ◌*◌, ◌<◌, ◌≤◌, Bool, true, false, cond, List, [], ◌∷◌, length, filter, refl, sym, ◌∙◌, ap, subst, arith, Option, Some, None}
use Rattle.std.specs.Prelude.{ℤ, pos, ◌+ℤ◌, unsigned_abs, IsPermutation}
use Rattle.std.specs.Option.{option_map}
use Rattle.std.specs.List.{AllByRecursion}
use Rattle.std.proofs.lemmas.Int.{ints}
use Rattle.std.proofs.lemmas.List.Sorted.{length_permutation}
use Rattle.map_base.specs.declared.ids.LineId.{LineId}
use Rattle.whole_sums.specs.Sums.{int_sum}
use Rattle.least_orders.specs.OrderCosts.{PairCosts, beside_next, order_cost}
use Rattle.least_orders.specs.Arrangements.{all_orders}
use Rattle.least_orders.specs.Rows.{Rows, AreRows, line_at, entry, row_costs, most_entry}
use Rattle.least_orders.specs.Subsets.{has_place, left_from, left, is_kept, cost_after, best_after, rest_cost}
use Rattle.least_orders.proofs.Lists.{Among, each_at, each_filter}
use Rattle.least_orders.proofs.LeastValues.{first_among}
use Rattle.least_orders.proofs.Arranging.{orders_are_permutations}

abs_sum : (a b : ℤ) (m n : ℕ) → unsigned_abs a ≤ m → unsigned_abs b ≤ n → unsigned_abs (a +ℤ b) ≤ m + n
abs_sum a b m n h k = grind (arith, ints)

pub sum_within : (f : LineId → ℤ) (xs : List LineId) → ((a : LineId) → unsigned_abs (f a) ≤ most_entry) → unsigned_abs (int_sum f xs) ≤ length xs * most_entry
sum_within f [] h = omega arith
sum_within f (x ∷ xs) h = let more = abs_sum (f x) (int_sum f xs) most_entry (length xs * most_entry) (h x) (sum_within f xs h) in omega (arith, more)

-- so many lines at most are left
pub left_few : (set k n : ℕ) → length (left_from set k n) ≤ n
left_few set k zero = omega arith
left_few set k (suc n) = by_test (has_place set k) (left_few set (k + 1) n)
  where
    by_test : (b : Bool) → length (left_from set (k + 1) n) ≤ n → length (cond b (left_from set (k + 1) n) (line_at k ∷ left_from set (k + 1) n)) ≤ suc n
    by_test true h = omega (arith, h)
    by_test false h = omega (arith, h)

module _ (r : Rows) (fits : AreRows r) where
  before_within : (a b : LineId) → unsigned_abs (entry r.count r.before a b) ≤ most_entry
  before_within a b = fits.before_small (a.0 * r.count + b.0)

  beside_within : (a b : LineId) → unsigned_abs (entry r.count r.beside a b) ≤ most_entry
  beside_within a b = fits.beside_small (a.0 * r.count + b.0)

  next_within : (a : LineId) (o : List LineId) → unsigned_abs (beside_next (row_costs r) a o) ≤ most_entry
  next_within a [] = omega arith
  next_within a (b ∷ o) = beside_within a b

  order_within : (o : List LineId) → length o ≤ 16 → unsigned_abs (order_cost (row_costs r) o) ≤ length o * 32000000000000000
  order_within [] few = omega arith
  order_within (a ∷ o) few =
      let sum = sum_within (entry r.count r.before a) o (before_within a) in
      let next = next_within a o in
      let rest = order_within o (omega (arith, few)) in
      let some = abs_sum (int_sum (entry r.count r.before a) o) (beside_next (row_costs r) a o) (length o * most_entry) most_entry sum next in
      let all = abs_sum (int_sum (entry r.count r.before a) o +ℤ beside_next (row_costs r) a o) (order_cost (row_costs r) o) (length o * most_entry + most_entry) (length o * 32000000000000000) some rest in
      omega (arith, few, all)

  after_within : (last : Option ℕ) (o : List LineId) → length o ≤ 16 → unsigned_abs (cost_after (row_costs r) last o) ≤ 514000000000000000
  after_within None o few = let cost = order_within o few in omega (arith, few, cost)
  after_within (Some l) o few =
      let cost = order_within o few in
      let all = abs_sum (beside_next (row_costs r) (line_at l) o) (order_cost (row_costs r) o) most_entry (length o * 32000000000000000) (next_within (line_at l) o) cost in
      omega (arith, few, all)

  pub rest_within : (set : ℕ) (last : Option ℕ) (v : ℤ) → rest_cost r set last ≡ Some v → unsigned_abs v ≤ 514000000000000000
  rest_within set last v e = by_best (best_after r set last) refl e
    where
      some_same : (a b : ℤ) → Some a ≡ Some b → a ≡ b
      some_same a b e = cc

      none_some : (a : ℤ) → None ≡ Some a → ⊥
      none_some a e = cc

      by_best : (o : Option (List LineId)) → best_after r set last ≡ o → option_map (cost_after (row_costs r) last) o ≡ Some v → unsigned_abs v ≤ 514000000000000000
      by_best None is e = absurd (none_some v e)
      by_best (Some o) is e =
          let moved : IsPermutation (left r set) o = each_at (λ o. IsPermutation (left r set) o) (filter (is_kept r) (all_orders (left r set))) o
          (each_filter (λ o. IsPermutation (left r set) o) (is_kept r) (all_orders (left r set)) (orders_are_permutations (length (left r set)) (left r set) refl))
          (first_among (cost_after (row_costs r) last) (filter (is_kept r) (all_orders (left r set))) o is) in
          let few = left_few set 0 r.count in
          let each = length_permutation (left r set) o moved in
          let most = fits.few in
          subst (λ w. unsigned_abs w ≤ 514000000000000000) (some_same (cost_after (row_costs r) last o) v e) (after_within last o (omega (arith, few, each, most)))

  pub before_left_within : (set k : ℕ) → unsigned_abs (int_sum (entry r.count r.before (line_at k)) (left r set)) ≤ 32000000000000000
  before_left_within set k =
      let sum = sum_within (entry r.count r.before (line_at k)) (left r set) (before_within (line_at k)) in
      let few = left_few set 0 r.count in
      let most = fits.few in
      omega (arith, sum, few, most)
