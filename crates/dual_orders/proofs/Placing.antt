-- The orders that are put in place segment by segment.
use Rattle.std.proofs.Common.{◌≡◌, ℕ, ℤ, ◌<◌, ◌≤◌, ◌+◌, List, [], ◌∷◌, length, map, set, get_or, refl, sym, ◌∙◌, ap, subst, arith}
use Rattle.std.specs.Prelude.{IsPermutation}
use Rattle.std.proofs.lemmas.List.{length-map, get_or_default}
use Rattle.std.proofs.lemmas.List.Sorted.{length_permutation}
use Rattle.map_base.specs.declared.ids.SegId.{SegId}
use Rattle.map_base.specs.declared.ids.LineId.{LineId}
use Rattle.order_model.specs.declared.problem.ProblemParts.{ProblemParts}
use Rattle.order_model.specs.Problems.{lines_on}
use Rattle.order_model.specs.Costs.{AreOrders}
use Rattle.order_model.proofs.OrderLemmas.{length-orders}
use Rattle.least_orders.specs.Arrangements.{kept_orders}
use Rattle.dual_bound.specs.declared.settled.SettledPair.{SettledPair}
use Rattle.dual_bound.specs.Settled.{settled_on}
use Rattle.dual_bound.proofs.Segments.{order_at}
use Rattle.dual_ascent.specs.declared.pair_average.PairAverage.{PairAverage}
use Rattle.dual_ascent.specs.OwnNumbers.{segments_from}
use Rattle.dual_ascent.specs.Averages.{nearest_on}
use Rattle.dual_ascent.specs.DualSteps.{answer_on}
use Rattle.dual_ascent.specs.Walks.{first_or}
use Rattle.dual_ascent.proofs.OwnParts.{seg_number, all_made_at}
use Rattle.dual_ascent.proofs.Meeting.{set_orders}
use Rattle.dual_rounds.proofs.Filling.{IsFilledTo, fill_goes_on, fill_ends}
use Rattle.dual_rounds.proofs.SegmentLists.{length_segments}
use Rattle.dual_orders.specs.SettledPairs.{pairs_of}

-- What is put in place on a segment.

abbrev pub answers_by : ProblemParts → List SettledPair → List ℤ → ℕ → List LineId → List LineId
answers_by p stack prices i order = answer_on p (pairs_of stack) prices (seg_number i)

abbrev pub nearest_by : ProblemParts → List SettledPair → List (List PairAverage) → ℕ → List LineId → List LineId
nearest_by p stack averages i order = nearest_on p (pairs_of stack) averages (seg_number i)

abbrev pub left_on : ProblemParts → List SettledPair → SegId → List LineId
left_on p stack s = first_or (lines_on p.segs s) (kept_orders (settled_on (pairs_of stack) s) (lines_on p.segs s))

abbrev pub left_by : ProblemParts → List SettledPair → ℕ → List LineId → List LineId
left_by p stack i order = left_on p stack (seg_number i)

-- All segments have it.

module _ (segs : List (List LineId)) (f : SegId → List LineId) where
  pub all_placed : (k : ℕ) (old new : List (List LineId)) → IsFilledTo (λ i order. f (seg_number i)) [] k old new → length segs ≤ k → AreOrders segs old → new ≡ map f (segments_from 0 segs)
  all_placed k old new filled over are =
      let each : length segs ≡ length old = length-orders segs old are in
      fill_ends (λ i order. f (seg_number i)) [] k old new (map f (segments_from 0 segs)) filled (omega (arith, each, over))
      (length-map (segments_from 0 segs) f ∙ (length_segments 0 segs ∙ each))
      (λ i below. all_made_at segs f i [] (omega (arith, each, below)))

  -- one segment more
  pub placed_more : (s : ℕ) (old now new : List (List LineId)) → IsFilledTo (λ i order. f (seg_number i)) [] s old now → AreOrders segs (map f (segments_from 0 segs)) → AreOrders segs old → AreOrders segs now
      → s < length segs → new ≡ set now s (f (seg_number s)) → IsFilledTo (λ i order. f (seg_number i)) [] (s + 1) old new × AreOrders segs new
  placed_more s old now new filled made are_old are_now below is =
      let each : length segs ≡ length old = length-orders segs old are_old in
      let moved : IsPermutation (get_or segs s []) (f (seg_number s)) =
      subst (IsPermutation (get_or segs s [])) (all_made_at segs f s [] below) (order_at segs (map f (segments_from 0 segs)) s made) in (
        subst (IsFilledTo (λ i order. f (seg_number i)) [] (s + 1) old) (sym is) (fill_goes_on (λ i order. f (seg_number i)) [] s old now (f (seg_number s)) filled (omega (arith, each, below)) refl),
        subst (AreOrders segs) (sym is) (set_orders segs now s (f (seg_number s)) are_now moved),
      )

-- The lengths of orders.

pub length_at : (segs orders : List (List LineId)) (s : ℕ) → AreOrders segs orders → length (get_or orders s []) ≡ length (get_or segs s [])
length_at segs orders s are = length_permutation (get_or segs s []) (get_or orders s []) (order_at segs orders s are)

lengths_of : (segs orders : List (List LineId)) → AreOrders segs orders → map (λ o. length o) orders ≡ map (λ o. length o) segs
lengths_of [] [] h = refl
lengths_of (l ∷ segs) (o ∷ orders) h =
    ap (λ n. n ∷ map (λ o. length o) orders) (length_permutation l o h.0) ∙ ap (λ ns. length l ∷ ns) (lengths_of segs orders h.1)
lengths_of [] (o ∷ orders) h = absurd h
lengths_of (l ∷ segs) [] h = absurd h

pub same_lengths : (segs orders others : List (List LineId)) → AreOrders segs orders → AreOrders segs others → map (λ o. length o) orders ≡ map (λ o. length o) others
same_lengths segs orders others h k = lengths_of segs orders h ∙ sym (lengths_of segs others k)

-- an order of a segment has as many lines as the one whose place it takes
pub placed_length : (segs orders : List (List LineId)) (f : SegId → List LineId) (s : ℕ) (order : List LineId)
    → AreOrders segs (map f (segments_from 0 segs)) → AreOrders segs orders → s < length segs → order ≡ f (seg_number s)
    → length order ≡ length (get_or orders s order)
placed_length segs orders f s order made are below is =
    let each : length segs ≡ length orders = length-orders segs orders are in
    ap length (is ∙ sym (all_made_at segs f s [] below))
    ∙ (length_at segs (map f (segments_from 0 segs)) s made
    ∙ (sym (length_at segs orders s are) ∙ ap length (get_or_default orders s [] order (omega (arith, each, below)))))
