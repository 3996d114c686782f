-- The orders that answer prices, and those nearest to averages, are least under what pairs of lines cost.
use Rattle.std.proofs.Common.{◌≡◌, ℕ, zero, suc, ◌+◌, ◌-◌, ◌<◌, ◌==◌, not, Bool, true, false, cond, List, [], ◌∷◌, length, map, refl, sym, ◌∙◌, ap, subst, arith, Option, Some, None}
use Rattle.std.specs.Prelude.{IsPermutation, ℤ, pos, ◌+ℤ◌, ◌-ℤ◌, unwrap_or}
use Rattle.std.specs.List.{All, AllByRecursion}
use Rattle.std.proofs.lemmas.Int.{ints}
use Rattle.std.proofs.lemmas.List.Elements.{recursion_from_All}
use Rattle.map_base.specs.declared.ids.SegId.{SegId}
use Rattle.map_base.specs.declared.ids.LineId.{LineId}
use Rattle.graph_core.specs.Consistent.{AreRising}
use Rattle.order_model.specs.declared.term.Term.{Term}
use Rattle.order_model.specs.declared.problem.ProblemParts.{ProblemParts}
use Rattle.order_model.specs.Problems.{lines_on, IsTerm}
use Rattle.order_model.specs.Costs.{comes_before, are_neighbours}
use Rattle.order_model.specs.PartTerms.{numbered_from}
use Rattle.order_model.specs.Prefixes.{is_placed}
use Rattle.order_model.proofs.Lines.{has_permutation, order_distinct}
use Rattle.whole_sums.specs.Sums.{int_sum}
use Rattle.whole_sums.proofs.Sums.{int_sum_same}
use Rattle.least_orders.specs.OrderCosts.{PairCosts, order_cost, summed_costs, cost_before, cost_beside}
use Rattle.least_orders.specs.Arrangements.{keeps, all_orders, kept_orders}
use Rattle.least_orders.specs.LeastOrders.{first_least, least_order}
use Rattle.least_orders.proofs.Lists.{each_among, each_filter}
use Rattle.least_orders.proofs.LeastValues.{first_least_same}
use Rattle.least_orders.proofs.Arranging.{order_is_permutation}
use Rattle.least_orders.proofs.CostSums.{order_cost_sum, order_cost_before, order_cost_beside}
use Rattle.dual_bound.specs.declared.settled.SettledPair.{SettledPair}
use Rattle.dual_bound.specs.Settled.{settled_on}
use Rattle.dual_bound.specs.Shares.{where_so}
use Rattle.dual_bound.specs.ShareCosts.{share_costs}
use Rattle.dual_bound.proofs.Segments.{before_or_behind, rising_at}
use Rattle.dual_bound.proofs.ShareCosts.{share_is_cost}
use Rattle.dual_ascent.specs.declared.pair_average.PairAverage.{PairAverage}
use Rattle.dual_ascent.specs.OwnNumbers.{all_terms, number_of}
use Rattle.dual_ascent.specs.Averages.{always, distance_by, distance, averages_on, nearest_on}
use Rattle.dual_ascent.specs.DualSteps.{share_under, answer_on}
use Rattle.dual_ascent.specs.SegmentCosts.{distance_costs}

pub numbered_fit : (segs : List (List LineId)) (k : ℕ) (terms : List Term) → AllByRecursion (IsTerm segs) terms → AllByRecursion (λ (t : ℕ × Term). IsTerm segs t.1) (numbered_from k terms)
numbered_fit segs k [] h = tt
numbered_fit segs k (t ∷ terms) h = (h.0, numbered_fit segs (k + 1) terms h.1)

-- the order that answers prices
pub answer_is : (p : ProblemParts) (settled : List SettledPair) (prices : List ℤ) (s : SegId) → All AreRising p.segs → All (IsTerm p.segs) p.terms
    → answer_on p settled prices s ≡ unwrap_or (least_order (share_costs (all_terms p) (number_of prices) s) (settled_on settled s) (lines_on p.segs s)) (lines_on p.segs s)
answer_is p settled prices s rising fit =
    ap (λ o. unwrap_or o (lines_on p.segs s))
    (first_least_same (share_under p prices s) (order_cost (share_costs (all_terms p) (number_of prices) s)) (kept_orders (settled_on settled s) (lines_on p.segs s))
    (each_filter (λ o. share_under p prices s o ≡ order_cost (share_costs (all_terms p) (number_of prices) s) o) (keeps (settled_on settled s)) (all_orders (lines_on p.segs s))
    (each_among (λ o. share_under p prices s o ≡ order_cost (share_costs (all_terms p) (number_of prices) s) o) (all_orders (lines_on p.segs s))
    (λ o h. sym (share_is_cost p.segs rising s o (order_is_permutation (lines_on p.segs s) o h) (all_terms p) (number_of prices) (numbered_fit p.segs 0 p.terms (recursion_from_All (IsTerm p.segs) p.terms fit)))))))

-- Averages.

-- two different lines of these
abbrev pub IsOf : List LineId → PairAverage → Type 0
IsOf lines x = (is_placed lines x.lesser ≡ true) × (is_placed lines x.greater ≡ true) × ((x.lesser.0 == x.greater.0) ≡ false) × ((x.greater.0 == x.lesser.0) ≡ false)

module _ (lines : List LineId) (rising : AreRising lines) (o : List LineId) (moved : IsPermutation lines o) where
  one_distance : (x : PairAverage) → IsOf lines x → distance_by o x ≡ order_cost (distance_costs x) o
  one_distance x is =
      sym (order_cost_sum (λ (c : PairCosts). c)
      (cost_before x.lesser x.greater (pos x.swapped) ∷ cost_before x.greater x.lesser (pos (always - x.swapped)) ∷ cost_beside x.lesser x.greater (pos 32768 -ℤ pos x.beside) ∷ []) o
      ∙ three (order_cost (cost_before x.lesser x.greater (pos x.swapped)) o) (order_cost (cost_before x.greater x.lesser (pos (always - x.swapped))) o)
      (order_cost (cost_beside x.lesser x.greater (pos 32768 -ℤ pos x.beside)) o) (comes_before o x.lesser x.greater) (comes_before o x.greater x.lesser)
      (order_cost_before x.lesser x.greater (pos x.swapped) o (order_distinct lines o rising moved) is.2 (sym (has_permutation lines o x.greater moved) ∙ is.1))
      (order_cost_before x.greater x.lesser (pos (always - x.swapped)) o (order_distinct lines o rising moved) is.3 (sym (has_permutation lines o x.lesser moved) ∙ is.0))
      (order_cost_beside x.lesser x.greater (pos 32768 -ℤ pos x.beside) o (order_distinct lines o rising moved))
      (before_or_behind o x.greater x.lesser is.3 (sym (has_permutation lines o x.greater moved) ∙ is.1) (sym (has_permutation lines o x.lesser moved) ∙ is.0)))
    where
      three : (a b c : ℤ) (h k : Bool) → a ≡ cond h (pos x.swapped) (pos 0) → b ≡ cond k (pos (always - x.swapped)) (pos 0)
          → c ≡ cond (are_neighbours o x.lesser x.greater) (pos 32768 -ℤ pos x.beside) (pos 0) → k ≡ not h
          → a +ℤ (b +ℤ (c +ℤ pos 0)) ≡ cond h (pos x.swapped) (pos (always - x.swapped)) +ℤ where_so (are_neighbours o x.lesser x.greater) (pos 32768 -ℤ pos x.beside)
      three a b c true true e f g n = absurd_true n
        where
          absurd_true : true ≡ false → a +ℤ (b +ℤ (c +ℤ pos 0)) ≡ pos x.swapped +ℤ where_so (are_neighbours o x.lesser x.greater) (pos 32768 -ℤ pos x.beside)
          absurd_true n = cc
      three a b c true false e f g n = summed a b c (pos x.swapped) (pos 0) (cond (are_neighbours o x.lesser x.greater) (pos 32768 -ℤ pos x.beside) (pos 0)) e f g
        where
          summed : (a b c u v w : ℤ) → a ≡ u → b ≡ pos 0 → c ≡ w → a +ℤ (b +ℤ (c +ℤ pos 0)) ≡ u +ℤ w
          summed a b c u v w e f g = omega (arith, ints, e, f, g)
      three a b c false true e f g n = summed a b c (pos (always - x.swapped)) (cond (are_neighbours o x.lesser x.greater) (pos 32768 -ℤ pos x.beside) (pos 0)) e f g
        where
          summed : (a b c u w : ℤ) → a ≡ pos 0 → b ≡ u → c ≡ w → a +ℤ (b +ℤ (c +ℤ pos 0)) ≡ u +ℤ w
          summed a b c u w e f g = omega (arith, ints, e, f, g)
      three a b c false false e f g n = absurd_false n
        where
          absurd_false : false ≡ true → a +ℤ (b +ℤ (c +ℤ pos 0)) ≡ pos (always - x.swapped) +ℤ where_so (are_neighbours o x.lesser x.greater) (pos 32768 -ℤ pos x.beside)
          absurd_false n = cc

  distances : (averages : List PairAverage) → AllByRecursion (IsOf lines) averages → AllByRecursion (λ (x : PairAverage). distance_by o x ≡ order_cost (distance_costs x) o) averages
  distances [] h = tt
  distances (x ∷ averages) h = (one_distance x h.0, distances averages h.1)

  -- how far an order is from its averages
  pub distance_is : (averages : List PairAverage) → AllByRecursion (IsOf lines) averages → distance averages o ≡ order_cost (summed_costs distance_costs averages) o
  distance_is averages h =
      int_sum_same (distance_by o) (λ (x : PairAverage). order_cost (distance_costs x) o) averages (distances averages h)
      ∙ sym (order_cost_sum distance_costs averages o)

-- the order that is nearest to its averages
pub nearest_is : (p : ProblemParts) (settled : List SettledPair) (averages : List (List PairAverage)) (s : SegId) → All AreRising p.segs
    → AllByRecursion (IsOf (lines_on p.segs s)) (averages_on averages s)
    → nearest_on p settled averages s ≡ unwrap_or (least_order (summed_costs distance_costs (averages_on averages s)) (settled_on settled s) (lines_on p.segs s)) (lines_on p.segs s)
nearest_is p settled averages s rising are =
    ap (λ o. unwrap_or o (lines_on p.segs s))
    (first_least_same (distance (averages_on averages s)) (order_cost (summed_costs distance_costs (averages_on averages s))) (kept_orders (settled_on settled s) (lines_on p.segs s))
    (each_filter (λ o. distance (averages_on averages s) o ≡ order_cost (summed_costs distance_costs (averages_on averages s)) o) (keeps (settled_on settled s)) (all_orders (lines_on p.segs s))
    (each_among (λ o. distance (averages_on averages s) o ≡ order_cost (summed_costs distance_costs (averages_on averages s)) o) (all_orders (lines_on p.segs s))
    (λ o h. distance_is (lines_on p.segs s) (rising_at p.segs s.0 rising) o (order_is_permutation (lines_on p.segs s) o h) (averages_on averages s) are))))
