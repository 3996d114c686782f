-- Where a tree is accepted, no orders that keep the settled pairs cost less than its target.
use Rattle.std.proofs.Common.{◌≡◌, ℕ, zero, suc, ◌+◌, ◌*◌, ◌<◌, ◌≤◌, ◌==◌, ◌||◌, ◌&&◌, not, Bool, true, false, cond, List, [], ◌∷◌, length, map, filter, refl, sym, ◌∙◌, ap, subst, arith, ◌⊎◌, inl, inr, true≢false, Option, Some, None}
use Rattle.std.specs.Prelude.{IsPermutation, ℤ, pos, ◌+ℤ◌, ◌*ℤ◌, ◌-ℤ◌, ◌≤ℤ◌, int_lt, ◌↔◌}
use Rattle.std.specs.List.{All, list_all}
use Rattle.std.proofs.lemmas.Bool.{and_parts, and_from, not-true}
use Rattle.std.proofs.lemmas.Int.{ints}
use Rattle.map_base.specs.declared.ids.SegId.{SegId}
use Rattle.map_base.specs.declared.ids.LineId.{LineId}
use Rattle.graph_core.specs.Consistent.{AreRising}
use Rattle.order_model.specs.declared.term.Term.{Term}
use Rattle.order_model.specs.Problems.{lines_on, IsTerm}
use Rattle.order_model.specs.Costs.{comes_before, cost_of, AreOrders}
use Rattle.order_model.specs.Parts.{IsRisingPart}
use Rattle.order_model.specs.Places.{has_line}
use Rattle.order_model.specs.PartTerms.{is_in, part_terms, plain_terms}
use Rattle.order_model.specs.Questions.{Question, question}
use Rattle.order_model.specs.Prefixes.{is_placed}
use Rattle.order_model.proofs.Lines.{has_permutation}
use Rattle.order_values.specs.PriceLists.{price_at}
use Rattle.order_values.specs.DualTrees.{PlainDual, fork, stop}
use Rattle.least_orders.specs.Arrangements.{keeps}
use Rattle.dual_bound.specs.declared.settled.SettledPair.{SettledPair}
use Rattle.dual_bound.specs.Settled.{settled_on, keep_all, with_pair}
use Rattle.dual_bound.specs.Shares.{thousand}
use Rattle.dual_bound.specs.Values.{value_of, are_allowed}
use Rattle.dual_bound.specs.Accepting.{is_narrow, shows, is_stopped, is_fork, accepts, after_line, first_of, failing_below, is_light, failing}
use Rattle.dual_bound.proofs.Segments.{order_at, before_or_behind, same_seg}
use Rattle.dual_bound.proofs.Bounding.{ValueBelow, value_bounds}

module _ (segs orders : List (List LineId)) (part : List SegId) (terms : List Term) (target : ℕ) (rising : All AreRising segs) (fit : All (IsTerm segs) terms)
    (part_rises : IsRisingPart part) (are_orders : AreOrders segs orders) where
  abbrev asked : Question
  asked = question segs part (part_terms terms part) target

  -- one pair more is kept where the orders have it so
  more_kept : (settled : List SettledPair) (s : SegId) (a b : LineId) (these : List SegId) → comes_before (lines_on orders s) a b ≡ true
      → keep_all settled these orders ≡ true → keep_all (with_pair s a b settled) these orders ≡ true
  more_kept settled s a b [] before kept = refl
  more_kept settled s a b (t ∷ these) before kept =
      let both = and_parts (keeps (settled_on settled t) (lines_on orders t)) (keep_all settled these orders) kept in
      and_from (keeps (settled_on (with_pair s a b settled) t) (lines_on orders t)) (keep_all (with_pair s a b settled) these orders) (by_test (s.0 == t.0) refl both.0) (more_kept settled s a b these before both.1)
    where
      by_test : (u : Bool) → (s.0 == t.0) ≡ u → keeps (settled_on settled t) (lines_on orders t) ≡ true
          → keeps (map (λ (p : SettledPair). (p.first, p.second)) (cond u (record { seg = s; first = a; second = b } ∷ filter (λ (p : SettledPair). p.seg.0 == t.0) settled) (filter (λ (p : SettledPair). p.seg.0 == t.0) settled))) (lines_on orders t) ≡ true
      by_test true e here = and_from (comes_before (lines_on orders t) a b) (keeps (settled_on settled t) (lines_on orders t)) (subst (λ u. comes_before (lines_on orders u) a b ≡ true) (same_seg s t e) before) here
      by_test false e here = here

  shown : (v : Option ℤ) → shows target v ≡ true → ValueBelow v (pos (thousand * cost_of (plain_terms (part_terms terms part)) orders)) → target ≤ cost_of (plain_terms (part_terms terms part)) orders
  shown None h below = absurd below
  shown (Some v) h below = target_below target (cost_of (plain_terms (part_terms terms part)) orders) v (above (pos thousand *ℤ (pos target -ℤ pos 1)) v h) below
    where
      above : (i j : ℤ) → int_lt i j ≡ true → (i +ℤ pos 1) ≤ℤ j
      above i j h = grind (arith, ints)

      target_below : (t c : ℕ) (v : ℤ) → ((pos thousand *ℤ (pos t -ℤ pos 1)) +ℤ pos 1) ≤ℤ v → v ≤ℤ pos (thousand * c) → t ≤ c
      target_below t c v h k = omega (arith, ints, h, k)

  sound : (settled : List SettledPair) (tree : PlainDual) → accepts asked settled tree ≡ true → keep_all settled part orders ≡ true → target ≤ cost_of (plain_terms (part_terms terms part)) orders
  sound settled (stop prices) ok kept =
      let tests = and_parts (are_allowed (part_terms terms part) prices) (is_narrow segs part && shows target (value_of segs (part_terms terms part) (price_at prices) settled part)) ok in
      let more = and_parts (is_narrow segs part) (shows target (value_of segs (part_terms terms part) (price_at prices) settled part)) tests.1 in
      shown (value_of segs (part_terms terms part) (price_at prices) settled part) more.1 (value_bounds segs orders part settled rising are_orders terms prices fit part_rises tests.0 kept)
  sound settled (fork s a b first second) ok kept =
      let tests = and_parts (is_fork asked s a b) (accepts asked (with_pair s a b settled) first && accepts asked (with_pair s b a settled) second) ok in
      let trees = and_parts (accepts asked (with_pair s a b settled) first) (accepts asked (with_pair s b a settled) second) tests.1 in
      let in_part = and_parts (is_in part s) (has_line (lines_on segs s) a && (has_line (lines_on segs s) b && not (a.0 == b.0))) tests.0 in
      let here = and_parts (has_line (lines_on segs s) a) (has_line (lines_on segs s) b && not (a.0 == b.0)) in_part.1 in
      let there = and_parts (has_line (lines_on segs s) b) (not (a.0 == b.0)) here.1 in
      let either = before_or_behind (lines_on orders s) a b (not-true (a.0 == b.0) there.1) (on_order s a here.0) (on_order s b there.0) in
      by_order (comes_before (lines_on orders s) a b) (comes_before (lines_on orders s) b a) refl refl either
      (λ h. sound (with_pair s a b settled) first trees.0 (more_kept settled s a b part h kept))
      (λ h. sound (with_pair s b a settled) second trees.1 (more_kept settled s b a part h kept))
    where
      on_order : (s : SegId) (a : LineId) → is_placed (lines_on segs s) a ≡ true → is_placed (lines_on orders s) a ≡ true
      on_order s a h = sym (has_permutation (lines_on segs s) (lines_on orders s) a (order_at segs orders s.0 are_orders)) ∙ h

      by_order : (u v : Bool) → comes_before (lines_on orders s) a b ≡ u → comes_before (lines_on orders s) b a ≡ v → comes_before (lines_on orders s) a b ≡ not (comes_before (lines_on orders s) b a)
          → (comes_before (lines_on orders s) a b ≡ true → target ≤ cost_of (plain_terms (part_terms terms part)) orders)
          → (comes_before (lines_on orders s) b a ≡ true → target ≤ cost_of (plain_terms (part_terms terms part)) orders) → target ≤ cost_of (plain_terms (part_terms terms part)) orders
      by_order true v e f differ first_case second_case = first_case e
      by_order false true e f differ first_case second_case = second_case f
      by_order false false e f differ first_case second_case = absurd (true≢false (sym (differ ∙ ap not f) ∙ e))

-- All orders keep no pairs.

keep_nothing : (part : List SegId) (orders : List (List LineId)) → keep_all [] part orders ≡ true
keep_nothing [] orders = refl
keep_nothing (s ∷ part) orders = keep_nothing part orders

-- Nothing fails exactly where a tree is accepted.

after_none : (a : LineId) (way : Option (List LineId)) → after_line a way ≡ None → way ≡ None
after_none a None h = refl
after_none a (Some way) h = absurd (some_none (a ∷ way) h)
  where
    some_none : (way : List LineId) → Some way ≡ None → ⊥
    some_none way e = cc

first_none : (one other : Option (List LineId)) → first_of one other ≡ None → (one ≡ None) × (other ≡ None)
first_none None other h = (refl, h)
first_none (Some way) other h = absurd (some_none way h)
  where
    some_none : (way : List LineId) → Some way ≡ None → ⊥
    some_none way e = cc

way_not_none : (way : List LineId) → Some way ≡ None → ⊥
way_not_none way e = cc

pub accepted_below : (q : Question) (settled : List SettledPair) (tree : PlainDual) → failing_below q settled tree ≡ None → accepts q settled tree ≡ true
accepted_below q settled (stop prices) h = by_test (is_stopped q settled prices) h
  where
    by_test : (b : Bool) → cond {A = Option (List LineId)} b None (Some []) ≡ None → b ≡ true
    by_test true e = refl
    by_test false e = absurd (way_not_none [] e)
accepted_below q settled (fork s a b first second) h =
    by_test (is_fork q s a b) h (λ g. accepted_below q (with_pair s a b settled) first g) (λ g. accepted_below q (with_pair s b a settled) second g)
  where
    by_test : (t : Bool) → cond t (first_of (after_line a (failing_below q (with_pair s a b settled) first)) (after_line b (failing_below q (with_pair s b a settled) second))) (Some []) ≡ None
        → (failing_below q (with_pair s a b settled) first ≡ None → accepts q (with_pair s a b settled) first ≡ true)
        → (failing_below q (with_pair s b a settled) second ≡ None → accepts q (with_pair s b a settled) second ≡ true)
        → (t && (accepts q (with_pair s a b settled) first && accepts q (with_pair s b a settled) second)) ≡ true
    by_test true e one two =
        let both = first_none (after_line a (failing_below q (with_pair s a b settled) first)) (after_line b (failing_below q (with_pair s b a settled) second)) e in
        and_from (accepts q (with_pair s a b settled) first) (accepts q (with_pair s b a settled) second)
        (one (after_none a (failing_below q (with_pair s a b settled) first) both.0)) (two (after_none b (failing_below q (with_pair s b a settled) second) both.1))
    by_test false e one two = absurd (way_not_none [] e)

pub below_accepted : (q : Question) (settled : List SettledPair) (tree : PlainDual) → accepts q settled tree ≡ true → failing_below q settled tree ≡ None
below_accepted q settled (stop prices) h = ap (λ t. cond t None (Some [])) h
below_accepted q settled (fork s a b first second) h =
    let tests = and_parts (is_fork q s a b) (accepts q (with_pair s a b settled) first && accepts q (with_pair s b a settled) second) h in
    let trees = and_parts (accepts q (with_pair s a b settled) first) (accepts q (with_pair s b a settled) second) tests.1 in
    ap (λ t. cond t (first_of (after_line a (failing_below q (with_pair s a b settled) first)) (after_line b (failing_below q (with_pair s b a settled) second))) (Some [])) tests.0
    ∙ (ap (λ w. first_of (after_line a w) (after_line b (failing_below q (with_pair s b a settled) second))) (below_accepted q (with_pair s a b settled) first trees.0)
    ∙ ap (λ w. after_line b w) (below_accepted q (with_pair s b a settled) second trees.1))

pub nothing_fails : (q : Question) (tree : PlainDual) → failing q tree ≡ None ↔ ((is_light q tree ≡ true) × (accepts q [] tree ≡ true))
nothing_fails q tree = (forward, backward)
  where
    forward : failing q tree ≡ None → (is_light q tree ≡ true) × (accepts q [] tree ≡ true)
    forward h = by_test (is_light q tree) h
      where
        by_test : (t : Bool) → cond t (failing_below q [] tree) (Some []) ≡ None → (t ≡ true) × (accepts q [] tree ≡ true)
        by_test true e = (refl, accepted_below q [] tree e)
        by_test false e = absurd (way_not_none [] e)

    backward : (is_light q tree ≡ true) × (accepts q [] tree ≡ true) → failing q tree ≡ None
    backward h = ap (λ t. cond t (failing_below q [] tree) (Some [])) h.0 ∙ below_accepted q [] tree h.1

-- What the laws say.

pub accepted_bounds : (segs : List (List LineId)) (part : List SegId) (terms : List Term) (target : ℕ) (settled : List SettledPair) (tree : PlainDual)
    → All AreRising segs → All (IsTerm segs) terms → IsRisingPart part → accepts (question segs part (part_terms terms part) target) settled tree ≡ true
    → (orders : List (List LineId)) → AreOrders segs orders → keep_all settled part orders ≡ true → target ≤ cost_of (plain_terms (part_terms terms part)) orders
accepted_bounds segs part terms target settled tree rising fit part_rises ok orders are_orders kept = sound segs orders part terms target rising fit part_rises are_orders settled tree ok kept

pub unfailing_bounds : (segs : List (List LineId)) (part : List SegId) (terms : List Term) (target : ℕ) (tree : PlainDual)
    → All AreRising segs → All (IsTerm segs) terms → IsRisingPart part → failing (question segs part (part_terms terms part) target) tree ≡ None
    → (orders : List (List LineId)) → AreOrders segs orders → target ≤ cost_of (plain_terms (part_terms terms part)) orders
unfailing_bounds segs part terms target tree rising fit part_rises none orders are_orders =
    accepted_bounds segs part terms target [] tree rising fit part_rises ((nothing_fails (question segs part (part_terms terms part) target) tree).0 none).1 orders are_orders (keep_nothing part orders)

pub value_bounds_orders : (segs : List (List LineId)) (part : List SegId) (terms : List Term) (settled : List SettledPair) (prices : List (ℕ × ℤ)) (v : ℤ)
    → All AreRising segs → All (IsTerm segs) terms → IsRisingPart part → are_allowed (part_terms terms part) prices ≡ true
    → value_of segs (part_terms terms part) (price_at prices) settled part ≡ Some v
    → (orders : List (List LineId)) → AreOrders segs orders → keep_all settled part orders ≡ true → v ≤ℤ pos (thousand * cost_of (plain_terms (part_terms terms part)) orders)
value_bounds_orders segs part terms settled prices v rising fit part_rises allowed is orders are_orders kept =
    subst (λ o. ValueBelow o (pos (thousand * cost_of (plain_terms (part_terms terms part)) orders))) is
    (value_bounds segs orders part settled rising are_orders terms prices fit part_rises allowed kept)
