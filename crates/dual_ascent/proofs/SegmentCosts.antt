-- Beside the orders of the others an order of a segment costs what its pairs of lines do, and a fixed amount.
use Rattle.std.proofs.Common.{◌≡◌, ◌≢◌, ℕ, zero, suc, ◌+◌, ◌*◌, ◌<◌, ◌≤◌, ◌==◌, ◌||◌, ◌&&◌, not, Bool, true, false, cond, List, [], ◌∷◌, length, map, get_or, set, refl, sym, ◌∙◌, ap, subst, arith, ◌⊎◌, inl, inr, true≢false, eq-eqb, eqb-true, Option, Some, None}
use Rattle.std.specs.Prelude.{IsPermutation, ℤ, pos, neg_ℤ, ◌+ℤ◌, ◌-ℤ◌}
use Rattle.std.specs.List.{All, AllByRecursion, sum_by}
use Rattle.std.proofs.lemmas.Bool.{ne_eqb}
use Rattle.std.proofs.lemmas.Int.{ints}
use Rattle.std.proofs.lemmas.List.{get_or-set_other}
use Rattle.std.proofs.lemmas.Grind.{get_or-set_at}
use Rattle.std.proofs.lemmas.List.Elements.{recursion_from_All}
use Rattle.map_base.specs.declared.ids.SegId.{SegId}
use Rattle.map_base.specs.declared.ids.LineId.{LineId}
use Rattle.graph_core.specs.Consistent.{AreRising}
use Rattle.order_model.specs.declared.term.Term.{Term}
use Rattle.order_model.specs.declared.term.Term.TheVariants.{Side, Link, Apart}
use Rattle.order_model.specs.declared.problem.ProblemParts.{ProblemParts}
use Rattle.order_model.specs.Problems.{lines_on, IsTerm}
use Rattle.order_model.specs.Costs.{comes_before, are_neighbours, same_answer, is_met_on, term_cost, cost_of, AreOrders}
use Rattle.order_model.specs.Prefixes.{is_placed}
use Rattle.order_model.proofs.Lines.{has_permutation, order_distinct}
use Rattle.whole_sums.specs.Sums.{int_sum}
use Rattle.whole_sums.proofs.Sums.{int_sum_same, int_sum_both, int_sum_pos}
use Rattle.least_orders.specs.OrderCosts.{PairCosts, order_cost, summed_costs, no_costs, cost_before, cost_beside}
use Rattle.least_orders.specs.Arrangements.{all_orders}
use Rattle.least_orders.specs.LeastOrders.{first_least}
use Rattle.least_orders.proofs.Lists.{each_among}
use Rattle.least_orders.proofs.LeastValues.{first_least_more}
use Rattle.least_orders.proofs.Arranging.{order_is_permutation}
use Rattle.least_orders.proofs.CostSums.{order_cost_sum, order_cost_none, order_cost_before, order_cost_beside}
use Rattle.dual_bound.specs.ShareCosts.{costs_where}
use Rattle.dual_bound.proofs.Segments.{contains_placed, before_or_behind, rising_at, same_seg}
use Rattle.dual_ascent.specs.LocalSearch.{cost_with, least_beside}
use Rattle.dual_ascent.specs.SegmentCosts.{less_where, link_beside, beside_costs, fixed_cost, costs_beside}

module _ (segs orders : List (List LineId)) (rising : All AreRising segs) (s : SegId) (known : s.0 < length orders) (o : List LineId) (moved : IsPermutation (lines_on segs s) o) where
  -- the orders with this one
  abbrev there : List (List LineId)
  there = set orders s.0 o

  at_same : (t : SegId) → (t.0 == s.0) ≡ true → lines_on there t ≡ o
  at_same t e = get_or-set_at orders s.0 t.0 o [] (eqb-true t.0 s.0 e) known

  at_other : (t : SegId) → (t.0 == s.0) ≡ false → lines_on there t ≡ lines_on orders t
  at_other t e = get_or-set_other orders s.0 t.0 o [] (λ f. true≢false (sym (is f) ∙ e))
    where
      is : t.0 ≡ s.0 → (t.0 == s.0) ≡ true
      is f = eq-eqb t.0 s.0 f

  distinct_apart : (a b : LineId) → a.0 < b.0 → (a.0 == b.0) ≡ false
  distinct_apart a b h = ne_eqb a.0 b.0 (λ e. absurd (omega (arith, h, e)))

  apart_distinct : (a b : LineId) → a.0 < b.0 → (b.0 == a.0) ≡ false
  apart_distinct a b h = ne_eqb b.0 a.0 (λ e. absurd (omega (arith, h, e)))

  on : (t : SegId) (a : LineId) → (t.0 == s.0) ≡ true → is_placed (lines_on segs t) a ≡ true → is_placed o a ≡ true
  on t a e h = sym (has_permutation (lines_on segs s) o a moved) ∙ (ap (λ u. is_placed (lines_on segs u) a) (sym (same_seg t s e)) ∙ h)

  -- a Link between this order and another
  link_cost : (other : List LineId) (flip : Bool) (a b : LineId) (w : ℕ) → a.0 < b.0 → is_placed o a ≡ true → is_placed o b ≡ true
      → pos (cond (same_answer flip (same_answer (comes_before o a b) (comes_before other a b))) w 0) ≡ order_cost (link_beside other flip a b w) o
  link_cost other flip a b w below here behind = by_test (same_answer flip (comes_before other a b)) refl
    where
      first_one : (f h t : Bool) → same_answer f t ≡ true → same_answer f (same_answer h t) ≡ h
      first_one true true true e = refl
      first_one true false true e = refl
      first_one false true false e = refl
      first_one false false false e = refl
      first_one true h false e = absurd (true≢false (sym e))
      first_one false h true e = absurd (true≢false (sym e))

      other_one : (f h t : Bool) → same_answer f t ≡ false → same_answer f (same_answer h t) ≡ not h
      other_one true true false e = refl
      other_one true false false e = refl
      other_one false true true e = refl
      other_one false false true e = refl
      other_one true h true e = absurd (true≢false e)
      other_one false h false e = absurd (true≢false e)

      as_pos : (t : Bool) → pos (cond t w 0) ≡ cond t (pos w) (pos 0)
      as_pos true = refl
      as_pos false = refl

      by_test : (t : Bool) → same_answer flip (comes_before other a b) ≡ t
          → pos (cond (same_answer flip (same_answer (comes_before o a b) (comes_before other a b))) w 0) ≡ order_cost (cond t (cost_before a b (pos w)) (cost_before b a (pos w))) o
      by_test true e =
          ap (λ t. pos (cond t w 0)) (first_one flip (comes_before o a b) (comes_before other a b) e)
          ∙ (as_pos (comes_before o a b) ∙ sym (order_cost_before a b (pos w) o (order_distinct (lines_on segs s) o (rising_at segs s.0 rising) moved) (distinct_apart a b below) behind))
      by_test false e =
          ap (λ t. pos (cond t w 0)) (other_one flip (comes_before o a b) (comes_before other a b) e ∙ sym (before_or_behind o b a (apart_distinct a b below) behind here))
          ∙ (as_pos (comes_before o b a) ∙ sym (order_cost_before b a (pos w) o (order_distinct (lines_on segs s) o (rising_at segs s.0 rising) moved) (apart_distinct a b below) here))

  -- an Apart between this order and another
  apart_cost : (other : List LineId) (a b : LineId) (w : ℕ)
      → pos (cond (not (same_answer (are_neighbours o a b) (are_neighbours other a b))) w 0)
      ≡ pos (cond (are_neighbours other a b) w 0) +ℤ order_cost (cost_beside a b (less_where (are_neighbours other a b) w)) o
  apart_cost other a b w =
      by_tests (are_neighbours o a b) (are_neighbours other a b)
      ∙ ap (λ v. pos (cond (are_neighbours other a b) w 0) +ℤ v)
      (sym (order_cost_beside a b (less_where (are_neighbours other a b) w) o (order_distinct (lines_on segs s) o (rising_at segs s.0 rising) moved)))
    where
      by_tests : (h t : Bool) → pos (cond (not (same_answer h t)) w 0) ≡ pos (cond t w 0) +ℤ cond h (less_where t w) (pos 0)
      by_tests true true = omega (arith, ints)
      by_tests true false = omega (arith, ints)
      by_tests false true = omega (arith, ints)
      by_tests false false = omega (arith, ints)

  same_swap : (a b : Bool) → same_answer a b ≡ same_answer b a
  same_swap true true = refl
  same_swap true false = refl
  same_swap false true = refl
  same_swap false false = refl

  zero_more : (x y : ℤ) → x ≡ y → x ≡ pos 0 +ℤ y
  zero_more x y e = omega (arith, ints, e)

  no_more : (n : ℕ) → pos n ≡ pos n +ℤ order_cost no_costs o
  no_more n = let none = order_cost_none o in omega (arith, ints, none)

  both_other : (seg other : SegId) → seg.0 < other.0 → (seg.0 == s.0) ≡ true → (other.0 == s.0) ≡ false
  both_other seg other below e = ne_eqb other.0 s.0 (λ f. let same = eqb-true seg.0 s.0 e in absurd (omega (arith, below, f, same)))

  -- what a term costs with this order
  pub term_cost_with : (t : Term) → IsTerm segs t → pos (term_cost there t) ≡ pos (fixed_cost orders s t) +ℤ order_cost (beside_costs orders s t) o
  term_cost_with (Side seg first second w) is = by_test (seg.0 == s.0) refl
    where
      as_pos : (t : Bool) → pos (cond t w 0) ≡ cond t (pos w) (pos 0)
      as_pos true = refl
      as_pos false = refl

      by_test : (t : Bool) → (seg.0 == s.0) ≡ t → pos (cond (comes_before (lines_on there seg) second first) w 0)
          ≡ pos (cond t 0 (cond (comes_before (lines_on orders seg) second first) w 0)) +ℤ order_cost (costs_where t (cost_before second first (pos w))) o
      by_test true e =
          zero_more (pos (cond (comes_before (lines_on there seg) second first) w 0)) (order_cost (cost_before second first (pos w)) o)
          (ap (λ l. pos (cond (comes_before l second first) w 0)) (at_same seg e)
          ∙ (as_pos (comes_before o second first)
          ∙ sym (order_cost_before second first (pos w) o (order_distinct (lines_on segs s) o (rising_at segs s.0 rising) moved) (ne_eqb second.0 first.0 (λ f. is.differ (sym f))) (on seg first e (contains_placed (lines_on segs seg) first is.first_on)))))
      by_test false e = ap (λ l. pos (cond (comes_before l second first) w 0)) (at_other seg e) ∙ no_more (cond (comes_before (lines_on orders seg) second first) w 0)
  term_cost_with (Link seg other flip a b w) is = by_tests (seg.0 == s.0) refl (other.0 == s.0) refl
    where
      by_tests : (t : Bool) → (seg.0 == s.0) ≡ t → (u : Bool) → (other.0 == s.0) ≡ u
          → pos (cond (same_answer flip (same_answer (comes_before (lines_on there seg) a b) (comes_before (lines_on there other) a b))) w 0)
          ≡ pos (cond (t || u) 0 (cond (same_answer flip (same_answer (comes_before (lines_on orders seg) a b) (comes_before (lines_on orders other) a b))) w 0))
          +ℤ order_cost (cond t (link_beside (lines_on orders other) flip a b w) (cond u (link_beside (lines_on orders seg) flip a b w) no_costs)) o
      by_tests true e u f =
          zero_more (pos (cond (same_answer flip (same_answer (comes_before (lines_on there seg) a b) (comes_before (lines_on there other) a b))) w 0)) (order_cost (link_beside (lines_on orders other) flip a b w) o)
          (ap (λ l. pos (cond (same_answer flip (same_answer (comes_before l a b) (comes_before (lines_on there other) a b))) w 0)) (at_same seg e)
          ∙ (ap (λ l. pos (cond (same_answer flip (same_answer (comes_before o a b) (comes_before l a b))) w 0)) (at_other other (both_other seg other is.seg_below e))
          ∙ link_cost (lines_on orders other) flip a b w is.a_below (on seg a e (contains_placed (lines_on segs seg) a is.a_on)) (on seg b e (contains_placed (lines_on segs seg) b is.b_on))))
      by_tests false e true f =
          zero_more (pos (cond (same_answer flip (same_answer (comes_before (lines_on there seg) a b) (comes_before (lines_on there other) a b))) w 0)) (order_cost (link_beside (lines_on orders seg) flip a b w) o)
          (ap (λ l. pos (cond (same_answer flip (same_answer (comes_before l a b) (comes_before (lines_on there other) a b))) w 0)) (at_other seg e)
          ∙ (ap (λ l. pos (cond (same_answer flip (same_answer (comes_before (lines_on orders seg) a b) (comes_before l a b))) w 0)) (at_same other f)
          ∙ (ap (λ t. pos (cond (same_answer flip t) w 0)) (same_swap (comes_before (lines_on orders seg) a b) (comes_before o a b))
          ∙ link_cost (lines_on orders seg) flip a b w is.a_below (on other a f (contains_placed (lines_on segs other) a is.a_on_other)) (on other b f (contains_placed (lines_on segs other) b is.b_on_other)))))
      by_tests false e false f =
          ap (λ l. pos (cond (same_answer flip (same_answer (comes_before l a b) (comes_before (lines_on there other) a b))) w 0)) (at_other seg e)
          ∙ (ap (λ l. pos (cond (same_answer flip (same_answer (comes_before (lines_on orders seg) a b) (comes_before l a b))) w 0)) (at_other other f)
          ∙ no_more (cond (same_answer flip (same_answer (comes_before (lines_on orders seg) a b) (comes_before (lines_on orders other) a b))) w 0))
  term_cost_with (Apart seg other a b w) is = by_tests (seg.0 == s.0) refl (other.0 == s.0) refl
    where
      by_tests : (t : Bool) → (seg.0 == s.0) ≡ t → (u : Bool) → (other.0 == s.0) ≡ u
          → pos (cond (not (same_answer (are_neighbours (lines_on there seg) a b) (are_neighbours (lines_on there other) a b))) w 0)
          ≡ pos (cond t (cond (are_neighbours (lines_on orders other) a b) w 0) (cond u (cond (are_neighbours (lines_on orders seg) a b) w 0)
          (cond (not (same_answer (are_neighbours (lines_on orders seg) a b) (are_neighbours (lines_on orders other) a b))) w 0)))
          +ℤ order_cost (cond t (cost_beside a b (less_where (are_neighbours (lines_on orders other) a b) w)) (cond u (cost_beside a b (less_where (are_neighbours (lines_on orders seg) a b) w)) no_costs)) o
      by_tests true e u f =
          ap (λ l. pos (cond (not (same_answer (are_neighbours l a b) (are_neighbours (lines_on there other) a b))) w 0)) (at_same seg e)
          ∙ (ap (λ l. pos (cond (not (same_answer (are_neighbours o a b) (are_neighbours l a b))) w 0)) (at_other other (both_other seg other is.seg_below e))
          ∙ apart_cost (lines_on orders other) a b w)
      by_tests false e true f =
          ap (λ l. pos (cond (not (same_answer (are_neighbours l a b) (are_neighbours (lines_on there other) a b))) w 0)) (at_other seg e)
          ∙ (ap (λ l. pos (cond (not (same_answer (are_neighbours (lines_on orders seg) a b) (are_neighbours l a b))) w 0)) (at_same other f)
          ∙ (ap (λ t. pos (cond (not t) w 0)) (same_swap (are_neighbours (lines_on orders seg) a b) (are_neighbours o a b))
          ∙ apart_cost (lines_on orders seg) a b w))
      by_tests false e false f =
          ap (λ l. pos (cond (not (same_answer (are_neighbours l a b) (are_neighbours (lines_on there other) a b))) w 0)) (at_other seg e)
          ∙ (ap (λ l. pos (cond (not (same_answer (are_neighbours (lines_on orders seg) a b) (are_neighbours l a b))) w 0)) (at_other other f)
          ∙ no_more (cond (not (same_answer (are_neighbours (lines_on orders seg) a b) (are_neighbours (lines_on orders other) a b))) w 0))

  terms_cost_with : (terms : List Term) → AllByRecursion (IsTerm segs) terms
      → AllByRecursion (λ (t : Term). pos (term_cost there t) ≡ pos (fixed_cost orders s t) +ℤ order_cost (beside_costs orders s t) o) terms
  terms_cost_with [] h = tt
  terms_cost_with (t ∷ terms) h = (term_cost_with t h.0, terms_cost_with terms h.1)

  -- what all terms cost with it
  pub all_cost_with : (terms : List Term) → All (IsTerm segs) terms
      → pos (cost_of terms there) ≡ int_sum (λ (t : Term). pos (fixed_cost orders s t)) terms +ℤ order_cost (summed_costs (beside_costs orders s) terms) o
  all_cost_with terms fit =
      sym (int_sum_pos (term_cost there) terms)
      ∙ (int_sum_same (λ (t : Term). pos (term_cost there t)) (λ (t : Term). pos (fixed_cost orders s t) +ℤ order_cost (beside_costs orders s t) o) terms
      (terms_cost_with terms (recursion_from_All (IsTerm segs) terms fit))
      ∙ (int_sum_both (λ (t : Term). pos (fixed_cost orders s t)) (λ (t : Term). order_cost (beside_costs orders s t) o) terms
      ∙ ap (λ v. int_sum (λ (t : Term). pos (fixed_cost orders s t)) terms +ℤ v) (sym (order_cost_sum (beside_costs orders s) terms o))))

-- so the least order of a segment beside those of the others is the least under what its pairs of lines cost
pub least_beside_is : (p : ProblemParts) (orders : List (List LineId)) (s : SegId) → All AreRising p.segs → All (IsTerm p.segs) p.terms → s.0 < length orders
    → least_beside p orders s ≡ first_least (order_cost (costs_beside p orders s)) (all_orders (lines_on p.segs s))
least_beside_is p orders s rising fit known =
    first_least_more (int_sum (λ (t : Term). pos (fixed_cost orders s t)) p.terms) (cost_with p orders s) (order_cost (costs_beside p orders s)) (all_orders (lines_on p.segs s))
    (each_among (λ o. cost_with p orders s o ≡ int_sum (λ (t : Term). pos (fixed_cost orders s t)) p.terms +ℤ order_cost (costs_beside p orders s) o) (all_orders (lines_on p.segs s))
    (λ o h. all_cost_with p.segs orders rising s known o (order_is_permutation (lines_on p.segs s) o h) p.terms fit))
