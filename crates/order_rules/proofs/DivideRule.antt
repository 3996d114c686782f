-- A division that applies: lifted orders cost the same, and orders with the group first cost no more.
use Rattle.std.proofs.Common.{◌≡◌, ◌≢◌, ℕ, ◌+◌, ◌*◌, ◌<◌, ◌≤◌, ◌==◌, Bool, true, false, not, cond, ◌&&◌, List, [], ◌∷◌, ◌++◌, length, take, refl, sym, ap, subst, ◌∙◌, arith, inl, inr, true≢false, eqb-true, eq-eqb, leb-true, nat_lt}
use Rattle.std.specs.Prelude.{filter, slice_set, nat_le, IsPermutation}
use Rattle.std.specs.List.{All, AllByRecursion, Contains, list_all}
use Rattle.std.proofs.lemmas.Bool.{or_right, or_left, ltb-true}
use Rattle.std.proofs.lemmas.List.{get_or_past, get_or-set_same, get_or_append_left, get_or_push, length-set, length-append, take_at, set-set}
use Rattle.std.proofs.lemmas.List.Elements.{All-get_or}
use Rattle.std.proofs.lemmas.List.Sorted.{Contains-permutation, IsPermutation-refl, IsPermutation-sym, IsPermutation-trans, IsPermutation-append, IsPermutation-filter_both}
use Rattle.map_base.specs.declared.ids.SegId.{SegId}
use Rattle.map_base.specs.declared.ids.LineId.{LineId}
use Rattle.graph_core.specs.Consistent.{AreRising}
use Rattle.order_model.specs.declared.term.Term.{Term}
use Rattle.order_model.specs.declared.term.Term.TheVariants.{Side, Link, Apart}
use Rattle.order_model.specs.declared.problem.ProblemParts.{ProblemParts}
use Rattle.order_model.specs.Problems.{lines_on, IsOn, IsTerm, IsProblem}
use Rattle.order_model.specs.Costs.{weight_of, cost_of, AreOrders}
use Rattle.order_model.specs.Places.{has_line}
use Rattle.order_model.proofs.Lines.{both_true, either_true, not_true, all_has, has_permutation}
use Rattle.order_model.proofs.OrderLemmas.{length-orders}
use Rattle.order_model.proofs.PlaceCosts.{order_at}
use Rattle.order_model.proofs.PlaceLemmas.{order_once, same_or_not}
use Rattle.order_model.proofs.RisingLines.{contains_cases}
use Rattle.order_rules.specs.PairWeights.{is_side, is_apart, is_on, is_of_lines, weight_where}
use Rattle.order_rules.specs.Dividing.{are_none, is_rising, others, most_apart, is_against, can_part, is_group, divide_applies, divided}
use Rattle.order_rules.proofs.MergeLess.{each_of_all, each_weaker, each_both}
use Rattle.order_rules.proofs.PairSums.{sum_same, sum_less, sum_none, first_of, second_of, of_lines}
use Rattle.order_rules.proofs.LineCounts.{filter_permutation, group_kept}
use Rattle.order_rules.proofs.MergeRule.{orders_set, set_itself}
use Rattle.order_rules.proofs.Grouped.{has_filter, has_filtered}
use Rattle.order_rules.proofs.DivideLess.{AreSplit, grouped, grouped_less, pairs_most, of_swapped}
use Rattle.order_rules.proofs.DivideCosts.{IsOfOne, new_seg, AreDivided, joined, IsFree, divided_cost}

has_contained : (xs : List LineId) (a : LineId) → Contains xs a → has_line xs a ≡ true
has_contained [] a h = absurd (omega (arith, h.1))
has_contained (x ∷ xs) a h = elim (contains_cases x a xs h) [
  | inl e ↦ or_left (x.0 == a.0) (has_line xs a) (eq-eqb x.0 a.0 (ap (λ (l : LineId). l.0) e))
  | inr later ↦ or_right (x.0 == a.0) (has_line xs a) (has_contained xs a later)
]

-- Orders of a list of segments to which one is added.

orders_push : (segs orders : List (List LineId)) (lines order : List LineId) → AreOrders segs orders → IsPermutation lines order
    → AreOrders (segs ++ lines ∷ []) (orders ++ order ∷ [])
orders_push [] [] lines order h k = (k, tt)
orders_push [] (o ∷ orders) lines order h k = absurd h
orders_push (l ∷ segs) [] lines order h k = absurd h
orders_push (l ∷ segs) (o ∷ orders) lines order h k = (h.0, orders_push segs orders lines order h.1 k)

orders_front : (segs : List (List LineId)) (lines : List LineId) (orders : List (List LineId)) → AreOrders (segs ++ lines ∷ []) orders → AreOrders segs (take (length segs) orders)
orders_front [] lines orders h = tt
orders_front (l ∷ segs) lines [] h = absurd h
orders_front (l ∷ segs) lines (o ∷ orders) h = (h.0, orders_front segs lines orders h.1)

-- a division that applies
pub record Divides (p : ProblemParts) (e : SegId) (group : List LineId) : Type 0 where
  pub known : e.0 < length p.segs
  pub rising : AreRising (lines_on p.segs e)
  pub group_rising : AreRising group
  pub some : 1 ≤ length group
  pub others_some : 1 ≤ length (others (lines_on p.segs e) group)
  pub within : (a : LineId) → has_line group a ≡ true → has_line (lines_on p.segs e) a ≡ true
  pub parts : (a b : LineId) → has_line group a ≡ true → has_line (others (lines_on p.segs e) group) b ≡ true
      → can_part (most_apart p.segs p.terms e) p.terms e a b ≡ true

segment_known : (segs : List (List LineId)) (e : SegId) (group : List LineId) → not (are_none group) ≡ true → list_all (has_line (lines_on segs e)) group ≡ true → e.0 < length segs
segment_known segs e [] some all = absurd (true≢false (sym some))
segment_known segs e (a ∷ group) some all = by_past
  where
    first : has_line (lines_on segs e) a ≡ true
    first = (both_true (has_line (lines_on segs e) a) (list_all (has_line (lines_on segs e)) group) all).0

    past : length segs ≤ e.0 → ⊥
    past h = let none : lines_on segs e ≡ [] = get_or_past segs e.0 [] h in true≢false (sym first ∙ ap (λ (xs : List LineId). has_line xs a) none)

    by_past : e.0 < length segs
    by_past = grind (arith, past)

rises : (lines : List LineId) → is_rising lines ≡ true → AreRising lines
rises [] h = tt
rises (a ∷ []) h = tt
rises (a ∷ b ∷ lines) h = let parts = both_true (nat_lt a.0 b.0) (is_rising (b ∷ lines)) h in (ltb-true a.0 b.0 parts.0, rises (b ∷ lines) parts.1)

not_none : (lines : List LineId) → not (are_none lines) ≡ true → 1 ≤ length lines
not_none [] h = absurd (true≢false (sym h))
not_none (a ∷ lines) h = omega arith

pub divides : (p : ProblemParts) (e : SegId) (group : List LineId) → IsProblem p → divide_applies p e group ≡ true → Divides p e group
divides p e group ok h =
    let lines : List LineId = lines_on p.segs e in
    let most : ℕ = most_apart p.segs p.terms e in
    let whole = both_true (is_group lines group) (list_all (λ a. list_all (can_part most p.terms e a) (others lines group)) group) h in
    let front = both_true (is_rising group && list_all (has_line lines) group && not (are_none group)) (not (are_none (others lines group))) whole.0 in
    let middle = both_true (is_rising group && list_all (has_line lines) group) (not (are_none group)) front.0 in
    let first = both_true (is_rising group) (list_all (has_line lines) group) middle.0 in
    let known = segment_known p.segs e group middle.1 first.1 in
    record {
      known = known;
      rising = All-get_or AreRising p.segs e.0 [] known ok.rising;
      group_rising = rises group first.0;
      some = not_none group middle.1;
      others_some = not_none (others lines group) front.1;
      within = λ a k. all_has (has_line lines) group a first.1 k;
      parts = λ a b k m.
          all_has (can_part most p.terms e a) (others lines group) b (all_has (λ c. list_all (can_part most p.terms e c) (others lines group)) group a whole.1 k) m;
    }

module _ (p : ProblemParts) (e : SegId) (group : List LineId) (ok : Divides p e group) where
  abbrev lines : List LineId
  lines = lines_on p.segs e

  abbrev rest : List LineId
  rest = others lines group

  abbrev R : ProblemParts
  R = divided p e group

  pub covers : (a : LineId) → IsOn p.segs e a → IsOfOne group rest a
  covers a on = by_group (has_line group a) refl
    where
      by_group : (c : Bool) → has_line group a ≡ c → IsOfOne group rest a
      by_group true h = inl (h, has_filter (λ b. not (has_line group b)) lines a (ap not h))
      by_group false h = inr (h, has_filtered (λ b. not (has_line group b)) lines a (ap not h) ∙ has_contained lines a on)

  pub spoken : (a b : LineId) → has_line group a ≡ true → has_line rest b ≡ true → list_all (λ t. not (is_against e a b t)) p.terms ≡ true
  spoken a b ha hb =
      (both_true (list_all (λ t. not (is_against e a b t)) p.terms)
      (nat_le (2 * most_apart p.segs p.terms e) (weight_where (λ t. is_side t && is_on e t && is_of_lines a b t) p.terms)) (ok.parts a b ha hb)).0

  pub free_each : (terms : List Term) → ((a b : LineId) → has_line group a ≡ true → has_line rest b ≡ true → list_all (λ t. not (is_against e a b t)) terms ≡ true)
      → AllByRecursion (IsFree e group rest) terms
  free_each [] h = tt
  free_each (t ∷ terms) h = (
    λ a b ha hb. not_true (is_against e a b t) (both_true (not (is_against e a b t)) (list_all (λ u. not (is_against e a b u)) terms) (h a b ha hb)).0,
    free_each terms (λ a b ha hb. (both_true (not (is_against e a b t)) (list_all (λ u. not (is_against e a b u)) terms) (h a b ha hb)).1),
  )

  pub sides : (a b : LineId) → has_line group a ≡ true → has_line rest b ≡ true
      → 2 * most_apart p.segs p.terms e ≤ weight_where (λ t. is_side t && is_on e t && is_of_lines a b t) p.terms
  sides a b ha hb =
      leb-true (2 * most_apart p.segs p.terms e) (weight_where (λ t. is_side t && is_on e t && is_of_lines a b t) p.terms)
      (both_true (list_all (λ t. not (is_against e a b t)) p.terms)
      (nat_le (2 * most_apart p.segs p.terms e) (weight_where (λ t. is_side t && is_on e t && is_of_lines a b t) p.terms)) (ok.parts a b ha hb)).1

  -- the lines of the segments after the division
  pub count : length R.segs ≡ length p.segs + 1
  count = length-append (slice_set p.segs e.0 group) (rest ∷ []) ∙ ap (λ n. n + 1) (length-set p.segs e.0 group)

  pub here : lines_on R.segs e ≡ group
  here =
      let below : e.0 < length (slice_set p.segs e.0 group) = omega (arith, length-set p.segs e.0 group, ok.known) in
      get_or_append_left (slice_set p.segs e.0 group) (rest ∷ []) [] e.0 below ∙ get_or-set_same p.segs e.0 group [] ok.known

  pub last : lines_on R.segs (new_seg p.segs) ≡ rest
  last = get_or_push (slice_set p.segs e.0 group) rest [] (length p.segs) (length-set p.segs e.0 group)

  group_is : (q : List (List LineId)) → AreOrders R.segs q → IsPermutation group (lines_on q e)
  group_is q h = let Q : List LineId → Type 0 = λ xs. IsPermutation xs (lines_on q e) in subst Q here (order_at R.segs q e.0 h (omega (arith, count, ok.known)))

  rest_is : (q : List (List LineId)) → AreOrders R.segs q → IsPermutation rest (lines_on q (new_seg p.segs))
  rest_is q h = let Q : List LineId → Type 0 = λ xs. IsPermutation xs (lines_on q (new_seg p.segs)) in subst Q last (order_at R.segs q (length p.segs) h (omega (arith, count)))

  -- the group and the rest are the lines of the segment
  pub lines_parted : IsPermutation lines (group ++ rest)
  lines_parted =
      let kept : List LineId = filter (has_line group) lines in
      IsPermutation-trans lines (kept ++ rest) (group ++ rest) (IsPermutation-filter_both (has_line group) (λ b. not (has_line group b)) (λ b. refl) lines)
      (IsPermutation-append kept group rest rest (IsPermutation-sym group kept (group_kept lines group ok.rising ok.group_rising ok.within)) (IsPermutation-refl rest))

  divided_orders : (q : List (List LineId)) → AreOrders R.segs q → AreDivided p.segs q e group rest
  divided_orders q h = record {
    known = ok.known;
    each = omega (arith, length-orders R.segs q h, count);
    covers = covers;
    group_order = λ a. sym (has_permutation group (lines_on q e) a (group_is q h));
    rest_order = λ a. sym (has_permutation rest (lines_on q (new_seg p.segs)) a (rest_is q h));
  }

  pub lifted_cost : (q : List (List LineId)) → All (IsTerm p.segs) p.terms → AreOrders R.segs q → cost_of p.terms (joined p.segs q e) ≡ cost_of R.terms q
  lifted_cost q all h = divided_cost p.segs q e group rest (divided_orders q h) p.terms all (free_each p.terms spoken)

  -- lifted orders are orders
  pub lifted_orders : (q : List (List LineId)) → AreOrders R.segs q → AreOrders p.segs (joined p.segs q e)
  lifted_orders q h =
      let order : List LineId = lines_on q e ++ lines_on q (new_seg p.segs) in
      let both : IsPermutation lines order =
      IsPermutation-trans lines (group ++ rest) order lines_parted (IsPermutation-append group (lines_on q e) rest (lines_on q (new_seg p.segs)) (group_is q h) (rest_is q h)) in
      let front : AreOrders (slice_set p.segs e.0 group) (take (length (slice_set p.segs e.0 group)) q) = orders_front (slice_set p.segs e.0 group) rest q h in
      let F : ℕ → Type 0 = λ n. AreOrders (slice_set p.segs e.0 group) (take n q) in
      let back : slice_set (slice_set p.segs e.0 group) e.0 lines ≡ p.segs = set-set p.segs e.0 group lines ∙ set_itself p.segs e.0 in
      let Q : List (List LineId) → Type 0 = λ xs. AreOrders xs (joined p.segs q e) in
      subst Q back (orders_set (slice_set p.segs e.0 group) (take (length p.segs) q) e.0 lines order (subst F (length-set p.segs e.0 group) front) both)

  -- the orders with the group first, as orders of the two segments
  abbrev pub apart_orders : List (List LineId) → List (List LineId)
  apart_orders q = slice_set q e.0 (filter (has_line group) (lines_on q e)) ++ filter (λ a. not (has_line group a)) (lines_on q e) ∷ []

  pub apart_are : (q : List (List LineId)) → AreOrders p.segs q → AreOrders R.segs (apart_orders q)
  apart_are q h =
      let is : IsPermutation lines (lines_on q e) = order_at p.segs q e.0 h ok.known in
      let front : List LineId = filter (has_line group) (lines_on q e) in
      let back : List LineId = filter (λ a. not (has_line group a)) (lines_on q e) in
      let kept : List LineId = filter (has_line group) lines in
      let group_order : IsPermutation group front =
      IsPermutation-trans group kept front (group_kept lines group ok.rising ok.group_rising ok.within) (filter_permutation (has_line group) lines (lines_on q e) is) in
      let rest_order : IsPermutation rest back = filter_permutation (λ a. not (has_line group a)) lines (lines_on q e) is in
      orders_push (slice_set p.segs e.0 group) (slice_set q e.0 front) rest back (orders_set p.segs q e.0 group front h group_order) rest_order

  split : (q : List (List LineId)) → AreOrders p.segs q → AreSplit p.segs q e group rest
  split q h =
      let is : IsPermutation lines (lines_on q e) = order_at p.segs q e.0 h ok.known in
      record {
        known = omega (arith, length-orders p.segs q h, ok.known);
        once = order_once lines (lines_on q e) ok.rising is;
        on = λ a k. sym (has_permutation lines (lines_on q e) a is) ∙ has_contained lines a k;
        contains = λ a k. Contains-permutation lines (lines_on q e) a is k;
        outside = λ a k out. has_filtered (λ b. not (has_line group b)) lines a (ap not out) ∙ has_contained lines a k;
      }

  -- the order of one side has the lines of that side
  front_has : (xs : List LineId) (a : LineId) → IsPermutation lines xs → has_line (filter (has_line group) xs) a ≡ has_line group a
  front_has xs a is = by_group (has_line group a) refl
    where
      by_group : (c : Bool) → has_line group a ≡ c → has_line (filter (has_line group) xs) a ≡ c
      by_group true h = has_filtered (has_line group) xs a h ∙ (sym (has_permutation lines xs a is) ∙ ok.within a h)
      by_group false h = has_filter (has_line group) xs a h

  back_has : (xs : List LineId) (a : LineId) → IsPermutation lines xs → has_line (filter (λ b. not (has_line group b)) xs) a ≡ has_line rest a
  back_has xs a is = by_group (has_line group a) refl
    where
      by_group : (c : Bool) → has_line group a ≡ c → has_line (filter (λ b. not (has_line group b)) xs) a ≡ has_line rest a
      by_group true h = has_filter (λ b. not (has_line group b)) xs a (ap not h) ∙ sym (has_filter (λ b. not (has_line group b)) lines a (ap not h))
      by_group false h =
          has_filtered (λ b. not (has_line group b)) xs a (ap not h)
          ∙ (sym (has_permutation lines xs a is) ∙ sym (has_filtered (λ b. not (has_line group b)) lines a (ap not h)))

  apart_divided : (q : List (List LineId)) → AreOrders p.segs q → AreDivided p.segs (apart_orders q) e group rest
  apart_divided q h =
      let front : List LineId = filter (has_line group) (lines_on q e) in
      let back : List LineId = filter (λ a. not (has_line group a)) (lines_on q e) in
      let is : IsPermutation lines (lines_on q e) = order_at p.segs q e.0 h ok.known in
      let many : length p.segs ≡ length q = length-orders p.segs q h in
      let below : e.0 < length (slice_set q e.0 front) = omega (arith, length-set q e.0 front, many, ok.known) in
      let here : lines_on (apart_orders q) e ≡ front =
      get_or_append_left (slice_set q e.0 front) (back ∷ []) [] e.0 below ∙ get_or-set_same q e.0 front [] (omega (arith, many, ok.known)) in
      let last : lines_on (apart_orders q) (new_seg p.segs) ≡ back = get_or_push (slice_set q e.0 front) back [] (length p.segs) (length-set q e.0 front ∙ sym many) in
      record {
        known = ok.known;
        each = omega (arith, length-append (slice_set q e.0 front) (back ∷ []), length-set q e.0 front, many);
        covers = covers;
        group_order = λ a. ap (λ (xs : List LineId). has_line xs a) here ∙ front_has (lines_on q e) a is;
        rest_order = λ a. ap (λ (xs : List LineId). has_line xs a) last ∙ back_has (lines_on q e) a is;
      }

  joined_is : (q : List (List LineId)) → AreOrders p.segs q → joined p.segs (apart_orders q) e ≡ slice_set q e.0 (grouped (has_line group) (lines_on q e))
  joined_is q h =
      let front : List LineId = filter (has_line group) (lines_on q e) in
      let back : List LineId = filter (λ a. not (has_line group a)) (lines_on q e) in
      let many : length p.segs ≡ length q = length-orders p.segs q h in
      let below : e.0 < length (slice_set q e.0 front) = omega (arith, length-set q e.0 front, many, ok.known) in
      let here : lines_on (apart_orders q) e ≡ front =
      get_or_append_left (slice_set q e.0 front) (back ∷ []) [] e.0 below ∙ get_or-set_same q e.0 front [] (omega (arith, many, ok.known)) in
      let last : lines_on (apart_orders q) (new_seg p.segs) ≡ back = get_or_push (slice_set q e.0 front) back [] (length p.segs) (length-set q e.0 front ∙ sym many) in
      let kept : take (length p.segs) (apart_orders q) ≡ slice_set q e.0 front = take_at (slice_set q e.0 front) (back ∷ []) (length p.segs) (length-set q e.0 front ∙ sym many) in
      ap (λ (zs : List (List LineId)). slice_set zs e.0 (lines_on (apart_orders q) e ++ lines_on (apart_orders q) (new_seg p.segs))) kept
      ∙ (ap (λ (xs : List LineId). slice_set (slice_set q e.0 front) e.0 (xs ++ lines_on (apart_orders q) (new_seg p.segs))) here
      ∙ (ap (λ (xs : List LineId). slice_set (slice_set q e.0 front) e.0 (front ++ xs)) last
      ∙ set-set q e.0 front (front ++ back)))

  abbrev apart_sum : LineId → LineId → ℕ
  apart_sum a b = weight_where (λ t. is_apart t && is_on e t && is_of_lines a b t) p.terms

  sum_swapped : (a b : LineId) → apart_sum a b ≡ apart_sum b a
  sum_swapped a b =
      sum_same (λ t. cond (is_apart t && is_on e t && is_of_lines a b t) (weight_of t) 0) (λ t. cond (is_apart t && is_on e t && is_of_lines b a t) (weight_of t) 0) p.terms
      (λ t. ap (λ (m : Bool). cond (is_apart t && is_on e t && m) (weight_of t) 0) (of_swapped t a b))

  lines_differ : (t : Term) → IsTerm p.segs t → (first_of t).0 ≢ (second_of t).0
  lines_differ (Side seg first second w) t = t.differ
  lines_differ (Link seg other flip a b w) t = λ k. omega (arith, t.a_below, k)
  lines_differ (Apart seg other a b w) t = λ k. omega (arith, t.a_below, k)

  none_of_same : (t : Term) (a b : LineId) → IsTerm p.segs t → a.0 ≡ b.0 → cond (is_apart t && is_on e t && is_of_lines a b t) (weight_of t) 0 ≤ 0
  none_of_same t a b is same = by_of (is_of_lines a b t) refl
    where
      x : LineId
      x = first_of t

      y : LineId
      y = second_of t

      no_more_of : (k : Bool) → cond (k && false) (weight_of t) 0 ≤ 0
      no_more_of true = omega arith
      no_more_of false = omega arith

      by_of : (c : Bool) → is_of_lines a b t ≡ c → cond (is_apart t && is_on e t && c) (weight_of t) 0 ≤ 0
      by_of false h = no_more_of (is_apart t && is_on e t)
      by_of true h = elim (either_true (x.0 == a.0 && y.0 == b.0) (x.0 == b.0 && y.0 == a.0) (sym (of_lines t a b) ∙ h)) [
        | inl k ↦ (let parts = both_true (x.0 == a.0) (y.0 == b.0) k in
            absurd (lines_differ t is (eqb-true x.0 a.0 parts.0 ∙ (same ∙ sym (eqb-true y.0 b.0 parts.1)))))
        | inr k ↦ (let parts = both_true (x.0 == b.0) (y.0 == a.0) k in
            absurd (lines_differ t is (eqb-true x.0 b.0 parts.0 ∙ (sym same ∙ sym (eqb-true y.0 a.0 parts.1)))))
      ]

  apart_most : (a b : LineId) → AllByRecursion (IsTerm p.segs) p.terms → has_line lines a ≡ true → has_line lines b ≡ true → apart_sum a b ≤ most_apart p.segs p.terms e
  apart_most a b all ha hb = elim (same_or_not a.0 b.0) [
    | inl same ↦ (let less = sum_less (λ t. cond (is_apart t && is_on e t && is_of_lines a b t) (weight_of t) 0) (λ t. 0) p.terms
        (each_weaker (IsTerm p.segs) (λ t. cond (is_apart t && is_on e t && is_of_lines a b t) (weight_of t) 0 ≤ 0) p.terms (λ t is. none_of_same t a b is same) all) in
        omega (arith, less, sum_none {A = Term} (λ t. 0) p.terms (λ t. refl)))
    | inr n ↦ pairs_most apart_sum lines a b sum_swapped ha hb n
  ]

  pub no_more : (q : List (List LineId)) → All (IsTerm p.segs) p.terms → AreOrders p.segs q → cost_of R.terms (apart_orders q) ≤ cost_of p.terms q
  no_more q all h =
      let is : IsPermutation lines (lines_on q e) = order_at p.segs q e.0 h ok.known in
      let each = each_of_all (IsTerm p.segs) p.terms all in
      let on_lines = λ (a : LineId) (k : has_line (lines_on q e) a ≡ true). has_permutation lines (lines_on q e) a is ∙ k in
      let cost = divided_cost p.segs (apart_orders q) e group rest (apart_divided q h) p.terms all (free_each p.terms spoken) in
      let less = grouped_less p.segs q e group rest (most_apart p.segs p.terms e) (split q h) p.terms
      (each_both (IsTerm p.segs) (IsFree e group rest) p.terms each (free_each p.terms spoken))
      (λ a b ha hb. apart_most a b each (on_lines a ha) (on_lines b hb))
      (λ a b ga ha gb hb.
      let out : has_line rest b ≡ true = has_filtered (λ c. not (has_line group c)) lines b (ap not gb) ∙ on_lines b hb in
      let twice = sides a b ga out in
      omega (arith, twice)) in
      omega (arith, cost, less, ap (cost_of p.terms) (joined_is q h))
