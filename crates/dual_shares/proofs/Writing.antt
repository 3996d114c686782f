-- An order is written by the places of its lines.
use Rattle.std.proofs.Common.{◌≡◌, ℕ, zero, suc, ◌+◌, ◌<◌, ◌≤◌, List, [], ◌∷◌, ◌++◌, length, map, take, set, get_or, refl, sym, ◌∙◌, ap, subst, arith, Option, Some, None}
use Rattle.std.specs.Prelude.{ℤ, IsPermutation}
use Rattle.std.specs.List.{All, AllByRecursion}
use Rattle.std.specs.Option.{option_map}
use Rattle.std.proofs.lemmas.List.{take_all, take_more_set, map_more, get_or_default}
use Rattle.std.proofs.lemmas.List.Elements.{All-from_get_or}
use Rattle.map_base.specs.declared.ids.LineId.{LineId}
use Rattle.graph_core.specs.Consistent.{AreRising}
use Rattle.order_model.proofs.Lines.{has_permutation}
use Rattle.least_orders.specs.OrderCosts.{PairCosts, order_cost}
use Rattle.least_orders.specs.Arrangements.{keeps, all_orders, kept_orders}
use Rattle.least_orders.specs.LeastOrders.{least_cost, least_order}
use Rattle.least_orders.specs.Rows.{Rows, line_at, named, lines_from, row_lines, row_costs, row_pairs, TellCosts}
use Rattle.least_orders.proofs.Lists.{each_at, each_among, each_filter}
use Rattle.least_orders.proofs.LeastValues.{least_of_first, first_among}
use Rattle.least_orders.proofs.Arranging.{order_is_permutation}
use Rattle.least_orders.proofs.Keeping.{placed_among, among_placed}
use Rattle.least_orders.proofs.Renaming.{least_order_by_rows}
use Rattle.subset_program.specs.PlainRows.{ArePlacesOf}
use Rattle.dual_shares.specs.Writing.{IsWritten, lines_at_places}

-- Line by line.

pub written_more : (lines order : List LineId) (places : List ℕ) (i p : ℕ) (x : LineId) → i < length order → i < length places → p ≡ get_or places i 0 → p < length lines → x ≡ get_or lines p x
    → take i order ≡ lines_at_places lines (take i places) → take (i + 1) (set order i x) ≡ lines_at_places lines (take (i + 1) places)
written_more lines order places i p x below within place known is h =
    take_more_set order i x below
    ∙ (ap (λ l. l ++ x ∷ []) h
    ∙ (ap (λ y. lines_at_places lines (take i places) ++ y ∷ []) (is ∙ (get_or_default lines p x (line_at p) known ∙ ap (λ k. named lines (line_at k)) place))
    ∙ sym (map_more (λ k. named lines (line_at k)) places i 0 within)))

pub written_whole : (lines order : List LineId) (places : List ℕ) (i : ℕ) → length order ≤ i → length places ≤ i → take i order ≡ lines_at_places lines (take i places) → order ≡ lines_at_places lines places
written_whole lines order places i over over_too h = sym (take_all i order over) ∙ (h ∙ ap (lines_at_places lines) (take_all i places over_too))

-- The places of the least order are those of lines.

place_below : (k n : ℕ) → AllByRecursion (λ (a : LineId). a.0 < k + n) (lines_from k n)
place_below k zero = tt
place_below k (suc n) = (omega arith, subst (λ m. AllByRecursion (λ (a : LineId). a.0 < m) (lines_from (k + 1) n)) (omega arith) (place_below (k + 1) n))

module _ (r : Rows) where
  order_below : (o : List LineId) → IsPermutation (row_lines r) o → AllByRecursion (λ (a : LineId). a.0 < r.count) o
  order_below o moved = each_among (λ (a : LineId). a.0 < r.count) o (λ a h.
      let below = each_at (λ (x : LineId). x.0 < 0 + r.count) (row_lines r) a (place_below 0 r.count) (placed_among (row_lines r) a (has_permutation (row_lines r) o a moved ∙ among_placed o a h)) in
      omega (arith, below))

  kept_below : AllByRecursion (λ o. AllByRecursion (λ (a : LineId). a.0 < r.count) o) (kept_orders (row_pairs r) (row_lines r))
  kept_below = each_filter (λ o. AllByRecursion (λ (a : LineId). a.0 < r.count) o) (keeps (row_pairs r)) (all_orders (row_lines r))
      (each_among (λ o. AllByRecursion (λ (a : LineId). a.0 < r.count) o) (all_orders (row_lines r)) (λ o h. order_below o (order_is_permutation (row_lines r) o h)))

  at_place : (places : List ℕ) (i : ℕ) → i < length places → AllByRecursion (λ (a : LineId). a.0 < r.count) (map line_at places) → get_or places i 0 < r.count
  at_place [] i below h = absurd (omega (arith, below))
  at_place (p ∷ places) zero below h = h.0
  at_place (p ∷ places) (suc i) below h = at_place places i (omega (arith, below)) h.1

  cost_by_order : least_cost (row_costs r) (row_pairs r) (row_lines r) ≡ option_map (order_cost (row_costs r)) (least_order (row_costs r) (row_pairs r) (row_lines r))
  cost_by_order = least_of_first (order_cost (row_costs r)) (kept_orders (row_pairs r) (row_lines r))

  pub places_known : (places : List ℕ) (v : ℤ) → Some v ≡ least_cost (row_costs r) (row_pairs r) (row_lines r)
      → ArePlacesOf (least_order (row_costs r) (row_pairs r) (row_lines r)) places → All (λ k. k < r.count) places
  places_known places v some are = by_order (least_order (row_costs r) (row_pairs r) (row_lines r)) refl are
    where
      by_order : (o : Option (List LineId)) → least_order (row_costs r) (row_pairs r) (row_lines r) ≡ o → ArePlacesOf o places → All (λ k. k < r.count) places
      by_order None e h = let none : Some v ≡ None = some ∙ (cost_by_order ∙ ap (option_map (order_cost (row_costs r))) e) in cc
      by_order (Some o) e h = All-from_get_or (λ k. k < r.count) places 0 (λ i below. at_place places i below
          (subst (λ l. AllByRecursion (λ (a : LineId). a.0 < r.count) l) (sym h)
          (each_at (λ o. AllByRecursion (λ (a : LineId). a.0 < r.count) o) (kept_orders (row_pairs r) (row_lines r)) o kept_below
          (first_among (order_cost (row_costs r)) (kept_orders (row_pairs r) (row_lines r)) o e))))

  module _ (lines : List LineId) (rising : AreRising lines) (costs : PairCosts) (settled : List (LineId × LineId)) (tell : TellCosts r costs settled lines) where
    -- where no order keeps the pairs, nothing is written
    pub none_written : (order : List LineId) → None ≡ least_cost (row_costs r) (row_pairs r) (row_lines r) → IsWritten (least_order costs settled lines) order order
    none_written order none = by_order (least_order (row_costs r) (row_pairs r) (row_lines r)) refl
      where
        by_order : (o : Option (List LineId)) → least_order (row_costs r) (row_pairs r) (row_lines r) ≡ o → IsWritten (least_order costs settled lines) order order
        by_order None e = subst (λ o. IsWritten o order order) (sym (least_order_by_rows lines rising r costs settled tell ∙ ap (option_map (map (named lines))) e)) refl
        by_order (Some o) e = let some : None ≡ Some (order_cost (row_costs r) o) = none ∙ (cost_by_order ∙ ap (option_map (order_cost (row_costs r))) e) in cc

    -- else its lines are
    pub order_written : (places : List ℕ) (v : ℤ) (old new : List LineId) → Some v ≡ least_cost (row_costs r) (row_pairs r) (row_lines r)
        → ArePlacesOf (least_order (row_costs r) (row_pairs r) (row_lines r)) places → new ≡ lines_at_places lines places → IsWritten (least_order costs settled lines) old new
    order_written places v old new some are is = by_order (least_order (row_costs r) (row_pairs r) (row_lines r)) refl are
      where
        twice : (places : List ℕ) → lines_at_places lines places ≡ map (named lines) (map line_at places)
        twice [] = refl
        twice (p ∷ places) = ap (λ l. named lines (line_at p) ∷ l) (twice places)

        by_order : (o : Option (List LineId)) → least_order (row_costs r) (row_pairs r) (row_lines r) ≡ o → ArePlacesOf o places → IsWritten (least_order costs settled lines) old new
        by_order None e h = let none : Some v ≡ None = some ∙ (cost_by_order ∙ ap (option_map (order_cost (row_costs r))) e) in cc
        by_order (Some o) e h =
            subst (λ o. IsWritten o old new) (sym (least_order_by_rows lines rising r costs settled tell ∙ ap (option_map (map (named lines))) e))
            (is ∙ (twice places ∙ ap (map (named lines)) h))
