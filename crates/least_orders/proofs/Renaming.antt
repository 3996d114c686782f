-- Rows tell the least order of lines by their places.
use Rattle.std.proofs.Common.{◌≡◌, ◌≢◌, ℕ, zero, suc, ◌+◌, ◌<◌, ◌≤◌, ◌==◌, ◌||◌, ◌&&◌, Bool, true, false, cond, List, [], ◌∷◌, length, map, filter, get_or, refl, sym, ◌∙◌, ap, subst, arith, ◌⊎◌, inl, inr, true≢false, eq-eqb, eqb-true, Option, Some, None}
use Rattle.std.specs.Prelude.{IsPermutation, ℤ, ◌+ℤ◌}
use Rattle.std.specs.List.{AllByRecursion, IsDistinct, list_any, list_all}
use Rattle.std.specs.Option.{option_map}
use Rattle.std.proofs.lemmas.Bool.{cases_eq, cases_order, eqb-false, ne_eqb, and_parts, and_from}
use Rattle.std.proofs.lemmas.Bool.Decides.{nat_tests}
use Rattle.map_base.specs.declared.ids.LineId.{LineId}
use Rattle.graph_core.specs.Consistent.{AreRising}
use Rattle.order_model.specs.Costs.{comes_before}
use Rattle.order_model.specs.Prefixes.{is_placed}
use Rattle.order_model.proofs.Lines.{either_true, same_line, has_permutation, order_distinct}
use Rattle.whole_sums.specs.Sums.{int_sum}
use Rattle.whole_sums.proofs.Sums.{int_sum-map, int_sum_same}
use Rattle.least_orders.specs.OrderCosts.{PairCosts, beside_next, order_cost}
use Rattle.least_orders.specs.Arrangements.{orders_of, all_orders, keeps, kept_orders}
use Rattle.least_orders.specs.LeastOrders.{first_least, least_value, least_order, least_cost}
use Rattle.least_orders.specs.Rows.{Rows, line_at, lines_from, row_lines, entry, row_costs, row_pairs, is_ahead, named, is_one_of, is_settled, TellCosts}
use Rattle.least_orders.specs.Subsets.{is_kept}
use Rattle.least_orders.proofs.Lists.{Among, each_at, each_among, each_filter, filter_same, all_at, all_from, same_test}
use Rattle.least_orders.proofs.LeastValues.{least_of_first, first_least-map, first_least_same, first_among}
use Rattle.least_orders.proofs.Arranging.{orders_map, order_is_permutation}
use Rattle.least_orders.proofs.Keeping.{placed_among, among_placed, row_lines_rise, ComeAhead, kept_from, kept_gives, keeps_as_kept}

abbrev same : LineId → LineId → Bool
same a b = a.0 == b.0

-- Places and lines.

-- those of the places from k on, of as many lines as there are
named_from : (done lines : List LineId) (k : ℕ) → k ≡ length done → (n : ℕ) → n ≡ length lines
    → (all : List LineId) → ((i : ℕ) (d : LineId) → i < n → get_or all (k + i) d ≡ get_or lines i d) → map (named all) (lines_from k n) ≡ lines
named_from done [] k e zero f all h = refl
named_from done (a ∷ lines) k e zero f all h = absurd (omega (arith, f))
named_from done [] k e (suc n) f all h = absurd (omega (arith, f))
named_from done (a ∷ lines) k e (suc n) f all h =
    ap (λ (u : LineId). u ∷ map (named all) (lines_from (k + 1) n)) (ap (λ j. get_or all j (line_at k)) (omega arith) ∙ h 0 (line_at k) (omega arith))
    ∙ ap (λ l. a ∷ l) (named_from (a ∷ done) lines (k + 1) (omega (arith, e)) n (omega (arith, f)) all
    (λ i d below. ap (λ j. get_or all j d) (omega arith) ∙ h (suc i) d (omega (arith, below))))

names : (lines : List LineId) → map (named lines) (lines_from 0 (length lines)) ≡ lines
names lines = named_from [] lines 0 refl (length lines) refl lines (λ i d below. ap (λ j. get_or lines j d) (omega arith))

lines_from_length : (k n : ℕ) → length (lines_from k n) ≡ n
lines_from_length k zero = refl
lines_from_length k (suc n) = ap suc (lines_from_length (k + 1) n)

-- a place of so many lines is below their number
place_below : (k n : ℕ) → AllByRecursion (λ (a : LineId). a.0 < k + n) (lines_from k n)
place_below k zero = tt
place_below k (suc n) = (omega arith, subst (λ m. AllByRecursion (λ (a : LineId). a.0 < m) (lines_from (k + 1) n)) (omega arith) (place_below (k + 1) n))

place_among : (k n i : ℕ) → k ≤ i → i < k + n → Among (line_at i) (lines_from k n)
place_among k zero i above below = absurd (omega (arith, above, below))
place_among k (suc n) i above below = by_place (cases_eq i k) (λ more. place_among (k + 1) n i more (omega (arith, below)))
  where
    by_place : (i ≡ k) ⊎ (i ≢ k) → (k + 1 ≤ i → Among (line_at i) (lines_from (k + 1) n)) → Among (line_at i) (lines_from k (suc n))
    by_place (inl is) later = inl (ap line_at is)
    by_place (inr apart) later = inr (later (omega (arith, above, apart)))

-- Rising lines are apart.

rising_more : (a : LineId) (lines : List LineId) (i : ℕ) (d : LineId) → AreRising (a ∷ lines) → i < length lines → a.0 < (get_or lines i d).0
rising_more a [] i d rising below = absurd (omega (arith, below))
rising_more a (b ∷ lines) zero d rising below = rising.0
rising_more a (b ∷ lines) (suc i) d rising below = let rest = rising_more b lines i d rising.1 (omega (arith, below)) in let here = rising.0 in omega (arith, rest, here)

rising_tail : (a : LineId) (lines : List LineId) → AreRising (a ∷ lines) → AreRising lines
rising_tail a [] h = tt
rising_tail a (b ∷ lines) h = h.1

pub rising_places : (lines : List LineId) (i j : ℕ) (d e : LineId) → AreRising lines → i < j → j < length lines → (get_or lines i d).0 < (get_or lines j e).0
rising_places [] i j d e rising below within = absurd (omega (arith, within))
rising_places (a ∷ lines) i zero d e rising below within = absurd (omega (arith, below))
rising_places (a ∷ lines) zero (suc j) d e rising below within = rising_more a lines j e rising (omega (arith, within))
rising_places (a ∷ lines) (suc i) (suc j) d e rising below within = rising_places lines i j d e (rising_tail a lines rising) (omega (arith, below)) (omega (arith, within))

module _ (lines : List LineId) (rising : AreRising lines) where
  -- lines go by the same name exactly where they stand at the same place
  pub same_name : (a b : LineId) → a.0 < length lines → b.0 < length lines → ((named lines a).0 == (named lines b).0) ≡ (a.0 == b.0)
  same_name a b here there = by_test (a.0 == b.0) refl
    where
      by_test : (t : Bool) → (a.0 == b.0) ≡ t → ((named lines a).0 == (named lines b).0) ≡ t
      by_test true e = eq-eqb (named lines a).0 (named lines b).0 (ap (λ u. (named lines u).0) (same_line a b e))
      by_test false e = ne_eqb (named lines a).0 (named lines b).0 (λ f. elim (cases_order a.0 b.0) [
        | inl is ↦ eqb-false a.0 b.0 e is
        | inr apart ↦ absurd (elim apart [
          | inl less ↦ let more = rising_places lines a.0 b.0 a b rising less there in omega (arith, more, f)
          | inr less ↦ let more = rising_places lines b.0 a.0 b a rising less here in omega (arith, more, f)
        ])
      ])

  -- names keep who comes before whom
  named_before : (o : List LineId) (a b : LineId) → AllByRecursion (λ (x : LineId). x.0 < length lines) o → a.0 < length lines → b.0 < length lines
      → comes_before (map (named lines) o) (named lines a) (named lines b) ≡ comes_before o a b
  named_before [] a b each here there = refl
  named_before (x ∷ o) a b each here there =
      ap (λ t. cond t true (cond ((named lines x).0 == (named lines b).0) false (comes_before (map (named lines) o) (named lines a) (named lines b)))) (same_name x a each.0 here)
      ∙ (ap (λ t. cond (x.0 == a.0) true (cond t false (comes_before (map (named lines) o) (named lines a) (named lines b)))) (same_name x b each.0 there)
      ∙ ap (λ t. cond (x.0 == a.0) true (cond (x.0 == b.0) false t)) (named_before o a b each.1 here there))

  module _ (r : Rows) (costs : PairCosts) (settled : List (LineId × LineId)) (tell : TellCosts r costs settled lines) where
    few : (o : List LineId) → IsPermutation (row_lines r) o → AllByRecursion (λ (x : LineId). x.0 < length lines) o
    few o moved = each_among (λ (x : LineId). x.0 < length lines) o (λ x h.
        let below = each_at (λ (a : LineId). a.0 < 0 + r.count) (row_lines r) x (place_below 0 r.count) (placed_among (row_lines r) x (has_permutation (row_lines r) o x moved ∙ among_placed o x h)) in
        let each = tell.each in
        omega (arith, below, each))

    -- the place of a line
    place_of : (a : LineId) → is_one_of lines a ≡ true → (p : LineId) × (p.0 < length lines) × (named lines p ≡ a)
    place_of a h =
        let here = found lines 0 (λ i d below. ap (λ j. get_or lines j d) (omega arith)) (placed_among lines a h) in
        (here.0, let below = here.1 in omega (arith, below), here.2)
      where
        found : (rest : List LineId) (k : ℕ) → ((i : ℕ) (d : LineId) → i < length rest → get_or lines (k + i) d ≡ get_or rest i d) → Among a rest
            → (p : LineId) × (p.0 < k + length rest) × (named lines p ≡ a)
        found [] k g h = absurd h
        found (b ∷ rest) k g (inl is) = (line_at k, omega arith, ap (λ j. get_or lines j (line_at k)) (omega arith) ∙ (g 0 (line_at k) (omega arith) ∙ sym is))
        found (b ∷ rest) k g (inr later) =
            let more = found rest (k + 1) (λ i d below. ap (λ j. get_or lines j d) (omega arith) ∙ g (suc i) d (omega (arith, below))) later in
            (more.0, let below = more.1 in omega (arith, below), more.2)

    settled_at : (ps : List (LineId × LineId)) (a b : LineId) → is_settled ps a b ≡ true → Among (a, b) ps
    settled_at [] a b h = absurd (true≢false (sym h))
    settled_at (p ∷ ps) a b h = elim (either_true (p.0.0 == a.0 && p.1.0 == b.0) (is_settled ps a b) h) [
      | inl here ↦
          let both = and_parts (p.0.0 == a.0) (p.1.0 == b.0) here in
          inl (pair_is (same_line p.0 a both.0) (same_line p.1 b both.1))
      | inr later ↦ inr (settled_at ps a b later)
    ]
      where
        pair_is : p.0 ≡ a → p.1 ≡ b → (a, b) ≡ p
        pair_is e f = ap (λ (u : LineId). (u, b)) (sym e) ∙ ap (λ (u : LineId). (p.0, u)) (sym f)

    at_settled : (ps : List (LineId × LineId)) (p : LineId × LineId) → Among p ps → is_settled ps p.0 p.1 ≡ true
    at_settled [] p h = absurd h
    at_settled (q ∷ ps) p (inl is) =
        ap (λ t. t || is_settled ps p.0 p.1) (and_from (q.0.0 == p.0.0) (q.1.0 == p.1.0) (eq-eqb q.0.0 p.0.0 (ap (λ (u : LineId × LineId). u.0.0) (sym is))) (eq-eqb q.1.0 p.1.0 (ap (λ (u : LineId × LineId). u.1.0) (sym is))))
    at_settled (q ∷ ps) p (inr later) = or_second (q.0.0 == p.0.0 && q.1.0 == p.1.0) (is_settled ps p.0 p.1) (at_settled ps p later)
      where
        or_second : (s t : Bool) → t ≡ true → (s || t) ≡ true
        or_second true t h = refl
        or_second false t h = h

    -- the settled pairs are kept by name exactly where those of the rows are kept
    keeps_by_name : (o : List LineId) → IsPermutation (row_lines r) o → keeps settled (map (named lines) o) ≡ keeps (row_pairs r) o
    keeps_by_name o moved = same_test (keeps settled (map (named lines) o)) (keeps (row_pairs r) o) forward backward
      where
        in_order : (a : LineId) → a.0 < length lines → Among a o
        in_order a below =
            let each = tell.each in
            placed_among o a (sym (has_permutation (row_lines r) o a moved) ∙ among_placed (row_lines r) a (place_among 0 r.count a.0 (omega arith) (omega (arith, below, each))))

        place : (a : LineId) → Among a o → a.0 < length lines
        place a h = each_at (λ (x : LineId). x.0 < length lines) o a (few o moved) h

        forward : keeps settled (map (named lines) o) ≡ true → keeps (row_pairs r) o ≡ true
        forward h = keeps_as_kept r o moved ∙ kept_from r o (order_distinct (row_lines r) o (row_lines_rise r) moved)
            (λ a b here there ahead.
            sym (named_before o a b (few o moved) (place a here) (place b there))
            ∙ all_at (λ (p : LineId × LineId). comes_before (map (named lines) o) p.0 p.1) settled (named lines a, named lines b) h
            (settled_at settled (named lines a) (named lines b) (sym (tell.ahead a.0 b.0 (place a here) (place b there)) ∙ ahead)))

        backward : keeps (row_pairs r) o ≡ true → keeps settled (map (named lines) o) ≡ true
        backward h = all_from (λ (p : LineId × LineId). comes_before (map (named lines) o) p.0 p.1) settled (λ p k.
            let both = and_parts (is_one_of lines p.0) (is_one_of lines p.1) (all_at (λ (p : LineId × LineId). is_one_of lines p.0 && is_one_of lines p.1) settled p tell.known k) in
            let one = place_of p.0 both.0 in
            let two = place_of p.1 both.1 in
            let ahead : is_ahead r one.0 two.0 ≡ true =
            tell.ahead one.0.0 two.0.0 one.1 two.1
            ∙ (ap (λ (u : LineId). is_settled settled u (named lines two.0)) one.2 ∙ (ap (λ (u : LineId). is_settled settled p.0 u) two.2 ∙ at_settled settled p k)) in
            ap (λ (u : LineId). comes_before (map (named lines) o) u p.1) (sym one.2)
            ∙ (ap (λ (u : LineId). comes_before (map (named lines) o) (named lines one.0) u) (sym two.2)
            ∙ (named_before o one.0 two.0 (few o moved) one.1 two.1
            ∙ kept_gives r o (sym (keeps_as_kept r o moved) ∙ h) one.0 two.0 (in_order one.0 one.1) (in_order two.0 two.1) ahead)))

    -- costs by name
    cost_by_name : (o : List LineId) → IsDistinct same o → AllByRecursion (λ (x : LineId). x.0 < length lines) o → order_cost costs (map (named lines) o) ≡ order_cost (row_costs r) o
    unfolding IsDistinct
    cost_by_name [] distinct each = refl
    cost_by_name (a ∷ o) distinct each =
        ap (λ s. (s +ℤ beside_next costs (named lines a) (map (named lines) o)) +ℤ order_cost costs (map (named lines) o)) (sums o distinct.0 each.1)
        ∙ (ap (λ s. (int_sum (entry r.count r.before a) o +ℤ s) +ℤ order_cost costs (map (named lines) o)) (next o distinct.0 each.1)
        ∙ ap (λ s. (int_sum (entry r.count r.before a) o +ℤ beside_next (row_costs r) a o) +ℤ s) (cost_by_name o distinct.1 each.1))
      where
        sums : (o : List LineId) → AllByRecursion (λ b. same a b ≡ false) o → AllByRecursion (λ (x : LineId). x.0 < length lines) o
            → int_sum (costs.before (named lines a)) (map (named lines) o) ≡ int_sum (entry r.count r.before a) o
        sums [] apart each_of = refl
        sums (b ∷ o) apart each_of =
            ap (λ s. s +ℤ int_sum (costs.before (named lines a)) (map (named lines) o)) (sym (tell.before a.0 b.0 each.0 each_of.0 (eqb-false a.0 b.0 apart.0)))
            ∙ ap (λ s. entry r.count r.before a b +ℤ s) (sums o apart.1 each_of.1)

        next : (o : List LineId) → AllByRecursion (λ b. same a b ≡ false) o → AllByRecursion (λ (x : LineId). x.0 < length lines) o
            → beside_next costs (named lines a) (map (named lines) o) ≡ beside_next (row_costs r) a o
        next [] apart each_of = refl
        next (b ∷ o) apart each_of = sym (tell.beside a.0 b.0 each.0 each_of.0 (eqb-false a.0 b.0 apart.0))

    filter_map_named : (os : List (List LineId)) → AllByRecursion (λ o. keeps settled (map (named lines) o) ≡ keeps (row_pairs r) o) os
        → filter (keeps settled) (map (map (named lines)) os) ≡ map (map (named lines)) (filter (keeps (row_pairs r)) os)
    filter_map_named [] h = refl
    filter_map_named (o ∷ os) h =
        ap (λ t. cond t (map (named lines) o ∷ filter (keeps settled) (map (map (named lines)) os)) (filter (keeps settled) (map (map (named lines)) os))) h.0
        ∙ (ap (λ l. cond (keeps (row_pairs r) o) (map (named lines) o ∷ l) l) (filter_map_named os h.1) ∙ by_test (keeps (row_pairs r) o))
      where
        by_test : (b : Bool) → cond b (map (named lines) o ∷ map (map (named lines)) (filter (keeps (row_pairs r)) os)) (map (map (named lines)) (filter (keeps (row_pairs r)) os))
            ≡ map (map (named lines)) (cond b (o ∷ filter (keeps (row_pairs r)) os) (filter (keeps (row_pairs r)) os))
        by_test true = refl
        by_test false = refl

    each_order : (P : List LineId → Type 0) → ((o : List LineId) → IsPermutation (row_lines r) o → P o) → AllByRecursion P (all_orders (row_lines r))
    each_order P f = each_among P (all_orders (row_lines r)) (λ o h. f o (order_is_permutation (row_lines r) o h))

    kept_by_name : kept_orders settled lines ≡ map (map (named lines)) (kept_orders (row_pairs r) (row_lines r))
    kept_by_name = ap (filter (keeps settled)) orders ∙ filter_map_named (all_orders (row_lines r)) (each_order (λ o. keeps settled (map (named lines) o) ≡ keeps (row_pairs r) o) keeps_by_name)
      where
        is_map : lines ≡ map (named lines) (row_lines r)
        is_map = sym (ap (λ n. map (named lines) (lines_from 0 n)) tell.each ∙ names lines)

        orders : all_orders lines ≡ map (map (named lines)) (all_orders (row_lines r))
        orders = ap (λ n. orders_of n lines) (sym tell.each ∙ sym (lines_from_length 0 r.count))
            ∙ (ap (λ l. orders_of (length (row_lines r)) l) is_map ∙ orders_map (named lines) (length (row_lines r)) (row_lines r))

    cost_of_kept : AllByRecursion (λ o. order_cost costs (map (named lines) o) ≡ order_cost (row_costs r) o) (kept_orders (row_pairs r) (row_lines r))
    cost_of_kept = each_filter (λ o. order_cost costs (map (named lines) o) ≡ order_cost (row_costs r) o) (keeps (row_pairs r)) (all_orders (row_lines r))
        (each_order (λ o. order_cost costs (map (named lines) o) ≡ order_cost (row_costs r) o)
        (λ o moved. cost_by_name o (order_distinct (row_lines r) o (row_lines_rise r) moved) (few o moved)))

    -- the least order is that of the rows by name
    pub least_order_by_rows : least_order costs settled lines ≡ option_map (map (named lines)) (least_order (row_costs r) (row_pairs r) (row_lines r))
    least_order_by_rows =
        ap (first_least (order_cost costs)) kept_by_name
        ∙ (first_least-map (order_cost costs) (map (named lines)) (kept_orders (row_pairs r) (row_lines r))
        ∙ ap (option_map (map (named lines))) (first_least_same (λ o. order_cost costs (map (named lines) o)) (order_cost (row_costs r)) (kept_orders (row_pairs r) (row_lines r)) cost_of_kept))

    -- and costs what that costs
    pub least_cost_by_rows : least_cost costs settled lines ≡ least_cost (row_costs r) (row_pairs r) (row_lines r)
    least_cost_by_rows =
        least_of_first (order_cost costs) (kept_orders settled lines)
        ∙ (ap (option_map (order_cost costs)) least_order_by_rows
        ∙ (by_order (least_order (row_costs r) (row_pairs r) (row_lines r)) refl
        ∙ sym (least_of_first (order_cost (row_costs r)) (kept_orders (row_pairs r) (row_lines r)))))
      where
        by_order : (o : Option (List LineId)) → least_order (row_costs r) (row_pairs r) (row_lines r) ≡ o
            → option_map (order_cost costs) (option_map (map (named lines)) (least_order (row_costs r) (row_pairs r) (row_lines r))) ≡ option_map (order_cost (row_costs r)) (least_order (row_costs r) (row_pairs r) (row_lines r))
        by_order None e = ap (λ o. option_map (order_cost costs) (option_map (map (named lines)) o)) e ∙ sym (ap (option_map (order_cost (row_costs r))) e)
        by_order (Some o) e =
            ap (λ o. option_map (order_cost costs) (option_map (map (named lines)) o)) e
            ∙ (ap Some (each_at (λ o. order_cost costs (map (named lines) o) ≡ order_cost (row_costs r) o) (kept_orders (row_pairs r) (row_lines r)) o cost_of_kept
            (first_among (order_cost (row_costs r)) (kept_orders (row_pairs r) (row_lines r)) o e))
            ∙ sym (ap (option_map (order_cost (row_costs r))) e))
