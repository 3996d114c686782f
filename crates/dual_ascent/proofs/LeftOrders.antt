-- Where all pairs are settled, the value of the exact prices of the orders that are left is 1000 times their cost.
use Rattle.std.proofs.Common.{◌≡◌, ℕ, true, List, [], ◌∷◌, get_or, refl, sym, ◌∙◌, ap, subst, arith, inl, inr, Option, Some, None}
use Rattle.std.specs.Prelude.{IsPermutation, ℤ, ◌+ℤ◌}
use Rattle.std.specs.Int.{int_min}
use Rattle.std.specs.List.{All, AllByRecursion}
use Rattle.std.proofs.lemmas.Int.{ints}
use Rattle.map_base.specs.declared.ids.SegId.{SegId}
use Rattle.map_base.specs.declared.ids.LineId.{LineId}
use Rattle.graph_core.specs.Consistent.{AreRising}
use Rattle.order_model.specs.declared.problem.ProblemParts.{ProblemParts}
use Rattle.order_model.specs.Problems.{lines_on}
use Rattle.whole_sums.specs.Sums.{int_sum}
use Rattle.least_orders.specs.Arrangements.{keeps, all_orders, kept_orders}
use Rattle.least_orders.specs.LeastOrders.{lesser_of, least_value}
use Rattle.least_orders.proofs.Lists.{Among, each_among}
use Rattle.least_orders.proofs.Arranging.{order_is_permutation}
use Rattle.dual_bound.specs.declared.settled.SettledPair.{SettledPair}
use Rattle.dual_bound.specs.Settled.{settled_on}
use Rattle.dual_bound.specs.Values.{least_share, plus, value_of}
use Rattle.dual_bound.proofs.Segments.{rising_at}
use Rattle.dual_bound.proofs.Bounding.{among_kept}
use Rattle.dual_ascent.specs.declared.pair_average.PairAverage.{PairAverage}
use Rattle.dual_ascent.specs.OwnNumbers.{all_segments, all_terms, number_of}
use Rattle.dual_ascent.specs.Averages.{ArePairs}
use Rattle.dual_ascent.specs.DualSteps.{share_under}
use Rattle.dual_ascent.specs.OpenPairs.{next_pair}
use Rattle.dual_ascent.specs.Walks.{first_or, orders_left}
use Rattle.dual_ascent.proofs.OwnParts.{seg_number, all_made_at, all_sums_same}
use Rattle.dual_ascent.proofs.Pricing.{IsValue}
use Rattle.dual_ascent.proofs.Unique.{AreSettled, one_order}
use Rattle.dual_ascent.proofs.Pairs.{every_segment, none_open}

-- the least of values that are all one
one_value : {A : Type 0} (f : A → ℤ) (o : A) (os : List A) → AllByRecursion (λ u. u ≡ o) os → least_value f (o ∷ os) ≡ Some (f o)
one_value f o [] h = refl
one_value f o (u ∷ os) h =
    ap (λ v. Some (lesser_of (f o) v)) (one_value f u os (same os h.1 h.0)) ∙ ap Some (least (f o) (f u) (ap f h.0))
  where
    least : (a b : ℤ) → b ≡ a → int_min a b ≡ a
    least a b e = grind (arith, ints)

    same : {A : Type 0} {o u : A} (os : List A) → AllByRecursion (λ v. v ≡ o) os → u ≡ o → AllByRecursion (λ v. v ≡ u) os
    same [] h e = tt
    same (v ∷ os) h e = (h.0 ∙ sym e, same os h.1 e)

module _ (p : ProblemParts) (settled : List SettledPair) (rising : All AreRising p.segs) where
  -- the order that is left on a segment
  abbrev left_on : SegId → List LineId
  left_on s = first_or (lines_on p.segs s) (kept_orders (settled_on settled s) (lines_on p.segs s))

  left_share : (price : ℕ → ℤ) (share : SegId → List LineId → ℤ) (i : ℕ) → AreSettled (settled_on settled (seg_number i)) (get_or p.segs i [])
      → IsValue (least_value (share (seg_number i)) (kept_orders (settled_on settled (seg_number i)) (get_or p.segs i []))) (share (seg_number i) (left_on (seg_number i)))
  left_share price share i all =
      by_list (kept_orders (settled_on settled (seg_number i)) (get_or p.segs i []))
      (λ o u h k. one_order (settled_on settled (seg_number i)) (get_or p.segs i []) o u (rising_at p.segs i rising) all (order o h) (order u k) (kept o h) (kept u k))
    where
      order : (o : List LineId) → Among o (kept_orders (settled_on settled (seg_number i)) (get_or p.segs i [])) → IsPermutation (get_or p.segs i []) o
      order o h = order_is_permutation (get_or p.segs i []) o (among_kept (keeps (settled_on settled (seg_number i))) o (all_orders (get_or p.segs i [])) h).0

      kept : (o : List LineId) → Among o (kept_orders (settled_on settled (seg_number i)) (get_or p.segs i [])) → keeps (settled_on settled (seg_number i)) o ≡ true
      kept o h = (among_kept (keeps (settled_on settled (seg_number i))) o (all_orders (get_or p.segs i [])) h).1

      by_list : (os : List (List LineId)) → ((o u : List LineId) → Among o os → Among u os → o ≡ u)
          → IsValue (least_value (share (seg_number i)) os) (share (seg_number i) (first_or (get_or p.segs i []) os))
      by_list [] h = tt
      by_list (o ∷ os) h =
          subst (λ v. IsValue v (share (seg_number i) o))
          (sym (one_value (share (seg_number i)) o os (each_among (λ u. u ≡ o) os (λ u k. h u o (inr k) (inl refl))))) refl

  left_values : (prices : List ℤ) (part : List SegId)
      → AllByRecursion (λ (s : SegId). IsValue (least_share p.segs (all_terms p) (number_of prices) settled s) (share_under p prices s (left_on s))) part
      → IsValue (value_of p.segs (all_terms p) (number_of prices) settled part) (int_sum (λ (s : SegId). share_under p prices s (left_on s)) part)
  left_values prices [] h = refl
  left_values prices (s ∷ part) h =
      joined (least_share p.segs (all_terms p) (number_of prices) settled s) (value_of p.segs (all_terms p) (number_of prices) settled part)
      (share_under p prices s (left_on s)) (int_sum (λ (s : SegId). share_under p prices s (left_on s)) part) h.0 (left_values prices part h.1)
    where
      joined : (v w : Option ℤ) (a b : ℤ) → IsValue v a → IsValue w b → IsValue (plus v w) (a +ℤ b)
      joined None w a b h k = tt
      joined (Some v) None a b h k = tt
      joined (Some v) (Some w) a b h k = ap (λ u. u +ℤ w) h ∙ ap (λ u. a +ℤ u) k

  -- the value of prices is the sum of the shares of the orders that are left
  pub left_value : (averages : List (List PairAverage)) (prices : List ℤ) → ArePairs p averages → next_pair p settled averages ≡ None
      → IsValue (value_of p.segs (all_terms p) (number_of prices) settled (all_segments p)) (int_sum (λ (s : SegId). share_under p prices s (lines_on (orders_left p settled) s)) (all_segments p))
  left_value averages prices pairs none =
      subst (IsValue (value_of p.segs (all_terms p) (number_of prices) settled (all_segments p)))
      (sym (all_sums_same (λ (s : SegId). share_under p prices s (lines_on (orders_left p settled) s)) (λ (s : SegId). share_under p prices s (left_on s)) p.segs
      (λ i below. ap (share_under p prices (seg_number i)) (all_made_at p.segs left_on i [] below))))
      (left_values prices (all_segments p)
      (every_segment p settled averages pairs (λ (s : SegId). IsValue (least_share p.segs (all_terms p) (number_of prices) settled s) (share_under p prices s (left_on s)))
      (λ i below. left_share (number_of prices) (share_under p prices) i (none_open p settled averages pairs none i below))))
