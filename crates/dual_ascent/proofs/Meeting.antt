-- Orders that are met are orders, and the local search lowers what they cost.
use Rattle.std.proofs.Common.{◌≡◌, ℕ, zero, suc, ◌≤◌, Bool, true, false, cond, List, [], ◌∷◌, get_or, set, refl, arith, Option, Some, None, inl}
use Rattle.std.specs.Prelude.{IsPermutation, ℤ, nat_lt, unwrap_or}
use Rattle.std.specs.List.{fold}
use Rattle.std.proofs.lemmas.Bool.Decides.{nat_tests}
use Rattle.std.proofs.lemmas.List.Sorted.{IsPermutation-refl}
use Rattle.map_base.specs.declared.ids.SegId.{SegId}
use Rattle.map_base.specs.declared.ids.LineId.{LineId}
use Rattle.order_model.specs.declared.problem.ProblemParts.{ProblemParts}
use Rattle.order_model.specs.Problems.{lines_on}
use Rattle.order_model.specs.Costs.{cost_of, AreOrders}
use Rattle.least_orders.specs.Arrangements.{keeps, all_orders, kept_orders}
use Rattle.least_orders.specs.LeastOrders.{first_least}
use Rattle.least_orders.proofs.Lists.{Among}
use Rattle.least_orders.proofs.LeastValues.{first_among}
use Rattle.least_orders.proofs.Arranging.{order_is_permutation}
use Rattle.dual_bound.specs.declared.settled.SettledPair.{SettledPair}
use Rattle.dual_bound.specs.Settled.{settled_on}
use Rattle.dual_bound.proofs.Bounding.{among_kept}
use Rattle.dual_ascent.specs.declared.pair_average.PairAverage.{PairAverage}
use Rattle.dual_ascent.specs.OwnNumbers.{all_segments}
use Rattle.dual_ascent.specs.LocalSearch.{Incumbent, cost_with, least_beside, exchanged, cheaper, improved_on, after_turn, after_turns, local_minimum, incumbent, after_offer, first_incumbent}
use Rattle.dual_ascent.specs.Averages.{averages_on, distance, nearest_on, averaged_orders}
use Rattle.dual_ascent.specs.DualSteps.{share_under, answer_on, answers}
use Rattle.dual_ascent.specs.Walks.{first_or, orders_left}
use Rattle.dual_ascent.proofs.OwnParts.{seg_number, all_made_orders}

pub set_orders : (segs orders : List (List LineId)) (s : ℕ) (o : List LineId) → AreOrders segs orders → IsPermutation (get_or segs s []) o → AreOrders segs (set orders s o)
set_orders [] [] s o h m = tt
set_orders (l ∷ segs) (x ∷ orders) zero o h m = (m, h.1)
set_orders (l ∷ segs) (x ∷ orders) (suc s) o h m = (h.0, set_orders segs orders s o h.1 m)
set_orders [] (x ∷ orders) s o h m = absurd h
set_orders (l ∷ segs) [] s o h m = absurd h

-- the lines of each segment are orders
pub number_orders : (segs : List (List LineId)) → AreOrders segs segs
number_orders [] = tt
number_orders (l ∷ segs) = (IsPermutation-refl l, number_orders segs)

-- the least of the orders that keep some pairs, or the lines, is an order
pub kept_or_lines : (value : List LineId → ℤ) (pairs : List (LineId × LineId)) (lines : List LineId) → IsPermutation lines (unwrap_or (first_least value (kept_orders pairs lines)) lines)
kept_or_lines value pairs lines = by_option (first_least value (kept_orders pairs lines)) refl
  where
    by_option : (o : Option (List LineId)) → first_least value (kept_orders pairs lines) ≡ o → IsPermutation lines (unwrap_or o lines)
    by_option None e = IsPermutation-refl lines
    by_option (Some x) e = order_is_permutation lines x (among_kept (keeps pairs) x (all_orders lines) (first_among value (kept_orders pairs lines) x e)).0

module _ (p : ProblemParts) where
  pub answers_orders : (settled : List SettledPair) (prices : List ℤ) → AreOrders p.segs (answers p settled prices)
  answers_orders settled prices =
      all_made_orders p.segs (answer_on p settled prices) (λ i. kept_or_lines (share_under p prices (seg_number i)) (settled_on settled (seg_number i)) (lines_on p.segs (seg_number i)))

  pub averaged_are_orders : (settled : List SettledPair) (averages : List (List PairAverage)) → AreOrders p.segs (averaged_orders p settled averages)
  averaged_are_orders settled averages =
      all_made_orders p.segs (nearest_on p settled averages) (λ i. kept_or_lines (distance (averages_on averages (seg_number i))) (settled_on settled (seg_number i)) (lines_on p.segs (seg_number i)))

  pub left_orders : (settled : List SettledPair) → AreOrders p.segs (orders_left p settled)
  left_orders settled =
      all_made_orders p.segs (λ (s : SegId). first_or (lines_on p.segs s) (kept_orders (settled_on settled s) (lines_on p.segs s)))
      (λ i. first_order (settled_on settled (seg_number i)) (lines_on p.segs (seg_number i)))
    where
      first_order : (pairs : List (LineId × LineId)) (lines : List LineId) → IsPermutation lines (first_or lines (kept_orders pairs lines))
      first_order pairs lines = by_list (kept_orders pairs lines) (λ o h. order_is_permutation lines o (among_kept (keeps pairs) o (all_orders lines) h).0)
        where
          by_list : (os : List (List LineId)) → ((o : List LineId) → Among o os → IsPermutation lines o) → IsPermutation lines (first_or lines os)
          by_list [] h = IsPermutation-refl lines
          by_list (o ∷ os) h = h o (inl refl)

  -- The local search.

  cheaper_orders : (orders others : List (List LineId)) → AreOrders p.segs orders → AreOrders p.segs others → AreOrders p.segs (cheaper p orders others)
  cheaper_orders orders others h k = by_test (nat_lt (cost_of p.terms others) (cost_of p.terms orders))
    where
      by_test : (t : Bool) → AreOrders p.segs (cond t others orders)
      by_test true = k
      by_test false = h

  cheaper_cost : (orders others : List (List LineId)) → cost_of p.terms (cheaper p orders others) ≤ cost_of p.terms orders
  cheaper_cost orders others = by_test (nat_lt (cost_of p.terms others) (cost_of p.terms orders)) refl
    where
      less : (m n : ℕ) → nat_lt m n ≡ true → m ≤ n
      less m n e = grind (arith, nat_tests)

      by_test : (t : Bool) → nat_lt (cost_of p.terms others) (cost_of p.terms orders) ≡ t → cost_of p.terms (cond t others orders) ≤ cost_of p.terms orders
      by_test true e = less (cost_of p.terms others) (cost_of p.terms orders) e
      by_test false e = omega (arith)

  exchanged_orders : (orders : List (List LineId)) (s : SegId) → AreOrders p.segs orders → AreOrders p.segs (exchanged orders s (least_beside p orders s))
  exchanged_orders orders s h = by_option (least_beside p orders s) refl
    where
      by_option : (o : Option (List LineId)) → least_beside p orders s ≡ o → AreOrders p.segs (exchanged orders s o)
      by_option None e = h
      by_option (Some x) e =
          set_orders p.segs orders s.0 x h (order_is_permutation (lines_on p.segs s) x (first_among (cost_with p orders s) (all_orders (lines_on p.segs s)) x e))

  -- orders, at most as dear
  abbrev pub Improves : List (List LineId) → List (List LineId) → Type 0
  Improves orders others = AreOrders p.segs others × (cost_of p.terms others ≤ cost_of p.terms orders)

  then_improves : (a b c : List (List LineId)) → Improves a b → Improves b c → Improves a c
  then_improves a b c h k = let first = h.1 in let second = k.1 in (k.0, omega (arith, first, second))

  pub segments_improve : (part : List SegId) (orders : List (List LineId)) → AreOrders p.segs orders → Improves orders (fold (improved_on p) orders part)
  segments_improve [] orders h = (h, omega (arith))
  segments_improve (s ∷ part) orders h =
      let one = cheaper_orders orders (exchanged orders s (least_beside p orders s)) h (exchanged_orders orders s h) in
      then_improves orders (improved_on p orders s) (fold (improved_on p) (improved_on p orders s) part)
      (one, cheaper_cost orders (exchanged orders s (least_beside p orders s))) (segments_improve part (improved_on p orders s) one)

  turns_improve : (n : ℕ) (orders : List (List LineId)) → AreOrders p.segs orders → Improves orders (after_turns p n orders)
  turns_improve zero orders h = (h, omega (arith))
  turns_improve (suc n) orders h =
      let turn = segments_improve (all_segments p) orders h in
      by_test (nat_lt (cost_of p.terms (after_turn p orders)) (cost_of p.terms orders))
      (then_improves orders (after_turn p orders) (after_turns p n (after_turn p orders)) turn (turns_improve n (after_turn p orders) turn.0))
    where
      by_test : (t : Bool) → Improves orders (after_turns p n (after_turn p orders)) → Improves orders (cond t (after_turns p n (after_turn p orders)) orders)
      by_test true rest = rest
      by_test false rest = (h, omega (arith))

  pub minimum_improves : (orders : List (List LineId)) → AreOrders p.segs orders → Improves orders (local_minimum p orders)
  minimum_improves orders h = turns_improve (cost_of p.terms orders) orders h

  -- Incumbents.

  -- orders with what they cost
  pub record IsIncumbent (best : Incumbent) : Type 0 where
    pub orders : AreOrders p.segs best.orders
    pub costs : best.cost ≡ cost_of p.terms best.orders

  pub first_is_incumbent : IsIncumbent (first_incumbent p)
  first_is_incumbent = record { orders = (minimum_improves p.segs (number_orders p.segs)).0; costs = refl }

  -- where orders are offered there is an incumbent, which costs no more than it did, and no more than these orders
  pub record IsOffered (orders : List (List LineId)) (best next : Incumbent) : Type 0 where
    pub is_one : IsIncumbent next
    pub below : next.cost ≤ best.cost
    pub below_these : next.cost ≤ cost_of p.terms orders

  pub offer_is : (orders : List (List LineId)) (best : Incumbent) → AreOrders p.segs orders → IsIncumbent best → IsOffered orders best (after_offer p orders best)
  offer_is orders best h k = by_test (nat_lt (cost_of p.terms (local_minimum p orders)) best.cost) refl
    where
      less : (m n : ℕ) → nat_lt m n ≡ true → m ≤ n
      less m n e = grind (arith, nat_tests)

      not_less : (m n : ℕ) → nat_lt m n ≡ false → n ≤ m
      not_less m n e = grind (arith, nat_tests)

      by_test : (t : Bool) → nat_lt (cost_of p.terms (local_minimum p orders)) best.cost ≡ t → IsOffered orders best (cond t (incumbent p (local_minimum p orders)) best)
      by_test true e =
          let met = minimum_improves orders h in
          record {
            is_one = record { orders = met.0; costs = refl };
            below = less (cost_of p.terms (local_minimum p orders)) best.cost e;
            below_these = met.1;
          }
      by_test false e =
          let met = (minimum_improves orders h).1 in
          let high = not_less (cost_of p.terms (local_minimum p orders)) best.cost e in
          record {
            is_one = k;
            below = omega (arith);
            below_these = omega (arith, met, high);
          }
