-- The least order behind a set goes on with the best choice of its next line.
use Rattle.std.proofs.Common.{◌≡◌, ◌≢◌, ℕ, zero, suc, ◌+◌, ◌<◌, ◌≤◌, ◌==◌, Bool, true, false, not, cond, ◌&&◌, List, [], ◌∷◌, ◌++◌, length, map, filter, refl, sym, ◌∙◌, ap, subst, arith, ◌⊎◌, inl, inr, true≢false, Option, Some, None}
use Rattle.std.specs.Prelude.{ℤ, pos, ◌+ℤ◌, int_lt}
use Rattle.std.specs.List.{AllByRecursion, list_any, flat_map}
use Rattle.std.specs.Option.{option_map}
use Rattle.std.proofs.lemmas.Int.{ints}
use Rattle.std.proofs.lemmas.List.Elements.{filter-append}
use Rattle.std.proofs.lemmas.List.Sorted.{list_any-IsPermutation}
use Rattle.std.specs.Prelude.{IsPermutation}
use Rattle.map_base.specs.declared.ids.LineId.{LineId}
use Rattle.whole_sums.specs.Sums.{int_sum}
use Rattle.least_orders.specs.declared.choice.Choice.{Choice}
use Rattle.least_orders.specs.OrderCosts.{PairCosts, beside_next, order_cost}
use Rattle.least_orders.specs.Arrangements.{picks, orders_of, all_orders}
use Rattle.least_orders.specs.LeastOrders.{first_of, first_least}
use Rattle.least_orders.specs.Rows.{Rows, AreRows, line_at, entry, row_costs, is_ahead}
use Rattle.least_orders.specs.Subsets.{has_place, with_place, left_from, left, is_kept, cost_after, best_after, rest_cost, is_ready, before_left, first_cost, beside_last, choice_of, better_choice, choice_from, choice}
use Rattle.least_orders.proofs.Lists.{Among, each_at, each_weaker, each_filter}
use Rattle.least_orders.proofs.LeastValues.{better, first_least-append, first_least-map, first_least_more, first_among}
use Rattle.least_orders.proofs.Arranging.{Pick, pick_lengths, orders_are_permutations, orders_have_sum}
use Rattle.least_orders.proofs.Sets.{free_picks, picks_of_left, ready_exactly}

-- Orders that begin with one line.

-- where some line that has to stand before it is behind it, none is kept
filter_none : (r : Rows) (a : LineId) (os : List (List LineId)) → AllByRecursion (λ o. list_any (λ (b : LineId). is_ahead r b a) o ≡ true) os → filter (is_kept r) (map (λ o. a ∷ o) os) ≡ []
filter_none r a [] h = refl
filter_none r a (o ∷ os) h =
    ap (λ t. cond (not t && is_kept r o) ((a ∷ o) ∷ filter (is_kept r) (map (λ o. a ∷ o) os)) (filter (is_kept r) (map (λ o. a ∷ o) os))) h.0 ∙ filter_none r a os h.1

-- else those whose rest is kept
filter_rest : (r : Rows) (a : LineId) (os : List (List LineId)) → AllByRecursion (λ o. list_any (λ (b : LineId). is_ahead r b a) o ≡ false) os
    → filter (is_kept r) (map (λ o. a ∷ o) os) ≡ map (λ o. a ∷ o) (filter (is_kept r) os)
filter_rest r a [] h = refl
filter_rest r a (o ∷ os) h =
    ap (λ t. cond (not t && is_kept r o) ((a ∷ o) ∷ filter (is_kept r) (map (λ o. a ∷ o) os)) (filter (is_kept r) (map (λ o. a ∷ o) os))) h.0
    ∙ (ap (λ l. cond (is_kept r o) ((a ∷ o) ∷ l) l) (filter_rest r a os h.1) ∙ by_test (is_kept r o))
  where
    by_test : (b : Bool) → cond b ((a ∷ o) ∷ map (λ o. a ∷ o) (filter (is_kept r) os)) (map (λ o. a ∷ o) (filter (is_kept r) os)) ≡ map (λ o. a ∷ o) (cond b (o ∷ filter (is_kept r) os) (filter (is_kept r) os))
    by_test true = refl
    by_test false = refl

-- what an order costs that begins with this line, by what its rest costs behind it
costs_more : (r : Rows) (last : Option ℕ) (k : ℕ) (o : List LineId) (s : ℤ) → int_sum (entry r.count r.before (line_at k)) o ≡ s
    → cost_after (row_costs r) last (line_at k ∷ o) ≡ (beside_last r last k +ℤ s) +ℤ cost_after (row_costs r) (Some k) o
costs_more r None k o s e = grouped (int_sum (entry r.count r.before (line_at k)) o) s (beside_next (row_costs r) (line_at k) o) (order_cost (row_costs r) o) e
  where
    grouped : (t s b c : ℤ) → t ≡ s → (t +ℤ b) +ℤ c ≡ (pos 0 +ℤ s) +ℤ (b +ℤ c)
    grouped t s b c e = omega (arith, ints, e)
costs_more r (Some l) k o s e =
    grouped (entry r.count r.beside (line_at l) (line_at k)) (int_sum (entry r.count r.before (line_at k)) o) s (beside_next (row_costs r) (line_at k) o) (order_cost (row_costs r) o) e
  where
    grouped : (d t s b c : ℤ) → t ≡ s → d +ℤ ((t +ℤ b) +ℤ c) ≡ (d +ℤ s) +ℤ (b +ℤ c)
    grouped d t s b c e = omega (arith, ints, e)

-- the orders that a choice leads to
abbrev pub chosen : Rows → ℕ → Option Choice → Option (List LineId)
chosen r set None = None
chosen r set (Some c) = option_map (λ (o : List LineId). line_at c.place ∷ o) (best_after r (with_place set c.place) (Some c.place))

-- a choice tells what they cost
abbrev pub Tells : Rows → ℕ → Option ℕ → Option Choice → Type 0
Tells r set last c = option_map (cost_after (row_costs r) last) (chosen r set c) ≡ option_map (λ (x : Choice). x.cost) c

-- the orders of those left that begin with this line
abbrev beginning : Rows → ℕ → ℕ → List (List LineId)
beginning r set k = map (λ (o : List LineId). line_at k ∷ o) (all_orders (left r (with_place set k)))

module _ (r : Rows) (fits : AreRows r) (set : ℕ) (last : Option ℕ) where
  abbrev worth : List LineId → ℤ
  worth o = cost_after (row_costs r) last o

  -- the choice of one line that is left is the best order that begins with it
  abbrev IsBestOf : Option Choice → List (List LineId) → Type 0
  IsBestOf c os = (first_least worth (filter (is_kept r) os) ≡ chosen r set c) × Tells r set last c

  one_choice : (k : ℕ) → has_place set k ≡ false → IsBestOf (choice_of r last k (first_cost r set k)) (beginning r set k)
  one_choice k free = by_ready (is_ready r set k) refl
    where
      others : List (List LineId)
      others = all_orders (left r (with_place set k))

      any_of : (o : List LineId) → IsPermutation (left r (with_place set k)) o
          → list_any (λ (b : LineId). is_ahead r b (line_at k)) o ≡ list_any (λ (b : LineId). is_ahead r b (line_at k)) (left r (with_place set k))
      any_of o h = sym (list_any-IsPermutation (λ (b : LineId). is_ahead r b (line_at k)) (left r (with_place set k)) o h)

      none_of : (b : Bool) → is_ready r set k ≡ b → list_any (λ (b : LineId). is_ahead r b (line_at k)) (left r (with_place set k)) ≡ not b
      none_of b e = turned (list_any (λ (b : LineId). is_ahead r b (line_at k)) (left r (with_place set k))) b (sym (ready_exactly r set k fits) ∙ e)
        where
          turned : (s t : Bool) → not s ≡ t → s ≡ not t
          turned true t h = ap not h
          turned false t h = ap not h

      by_ready : (b : Bool) → is_ready r set k ≡ b → IsBestOf (choice_of r last k (first_cost r set k)) (beginning r set k)
      by_ready false e =
          let gone : first_cost r set k ≡ None = rw (free, e) refl in
          let none : filter (is_kept r) (beginning r set k) ≡ [] = filter_none r (line_at k) (all_orders (left r (with_place set k)))
          (each_weaker (λ o. IsPermutation (left r (with_place set k)) o) (λ o. list_any (λ (b : LineId). is_ahead r b (line_at k)) o ≡ true) (all_orders (left r (with_place set k)))
          (λ o h. any_of o h ∙ none_of false e) (orders_are_permutations (length (left r (with_place set k))) (left r (with_place set k)) refl)) in
          subst (λ f. IsBestOf (choice_of r last k f) (beginning r set k)) (sym gone) (ap (first_least worth) none, refl)
      by_ready true e =
          let there : first_cost r set k ≡ option_map (λ v. v +ℤ before_left r (with_place set k) k) (rest_cost r (with_place set k) (Some k)) = rw (free, e) refl in
          subst (λ f. IsBestOf (choice_of r last k f) (beginning r set k)) (sym there) (by_best (best_after r (with_place set k) (Some k)) refl)
        where
          kept : List (List LineId)
          kept = filter (is_kept r) (all_orders (left r (with_place set k)))

          more : ℤ
          more = beside_last r last k +ℤ before_left r (with_place set k) k

          each_more : AllByRecursion (λ o. cost_after (row_costs r) last (line_at k ∷ o) ≡ (beside_last r last k +ℤ before_left r (with_place set k) k) +ℤ cost_after (row_costs r) (Some k) o) (filter (is_kept r) (all_orders (left r (with_place set k))))
          each_more = each_filter (λ o. cost_after (row_costs r) last (line_at k ∷ o) ≡ (beside_last r last k +ℤ before_left r (with_place set k) k) +ℤ cost_after (row_costs r) (Some k) o) (is_kept r) (all_orders (left r (with_place set k)))
              (each_weaker (λ o. int_sum (entry r.count r.before (line_at k)) o ≡ before_left r (with_place set k) k)
              (λ o. cost_after (row_costs r) last (line_at k ∷ o) ≡ (beside_last r last k +ℤ before_left r (with_place set k) k) +ℤ cost_after (row_costs r) (Some k) o)
              (all_orders (left r (with_place set k)))
              (λ o h. costs_more r last k o (before_left r (with_place set k) k) h)
              (orders_have_sum (entry r.count r.before (line_at k)) (length (left r (with_place set k))) (left r (with_place set k)) refl))

          firsts : first_least worth (filter (is_kept r) (beginning r set k)) ≡ option_map (λ (o : List LineId). line_at k ∷ o) (best_after r (with_place set k) (Some k))
          firsts =
              ap (first_least worth) (filter_rest r (line_at k) (all_orders (left r (with_place set k)))
              (each_weaker (λ o. IsPermutation (left r (with_place set k)) o) (λ o. list_any (λ (b : LineId). is_ahead r b (line_at k)) o ≡ false) (all_orders (left r (with_place set k)))
              (λ o h. any_of o h ∙ none_of true e) (orders_are_permutations (length (left r (with_place set k))) (left r (with_place set k)) refl)))
              ∙ (first_least-map worth (λ (o : List LineId). line_at k ∷ o) (filter (is_kept r) (all_orders (left r (with_place set k))))
              ∙ ap (option_map (λ (o : List LineId). line_at k ∷ o))
              (first_least_more (beside_last r last k +ℤ before_left r (with_place set k) k) (λ o. cost_after (row_costs r) last (line_at k ∷ o)) (cost_after (row_costs r) (Some k))
              (filter (is_kept r) (all_orders (left r (with_place set k)))) each_more))

          by_best : (o : Option (List LineId)) → best_after r (with_place set k) (Some k) ≡ o
              → IsBestOf (choice_of r last k (option_map (λ v. v +ℤ before_left r (with_place set k) k) (option_map (cost_after (row_costs r) (Some k)) (best_after r (with_place set k) (Some k))))) (beginning r set k)
          by_best None is =
              subst (λ b. IsBestOf (choice_of r last k (option_map (λ v. v +ℤ before_left r (with_place set k) k) (option_map (cost_after (row_costs r) (Some k)) b))) (beginning r set k)) (sym is)
              (firsts ∙ ap (option_map (λ (o : List LineId). line_at k ∷ o)) is, refl)
          by_best (Some o) is =
              subst (λ b. IsBestOf (choice_of r last k (option_map (λ v. v +ℤ before_left r (with_place set k) k) (option_map (cost_after (row_costs r) (Some k)) b))) (beginning r set k)) (sym is) (
                firsts,
                ap (λ b. option_map worth (option_map (λ (o : List LineId). line_at k ∷ o) b)) is ∙ ap Some (turned (each_at (λ o. cost_after (row_costs r) last (line_at k ∷ o) ≡ (beside_last r last k +ℤ before_left r (with_place set k) k) +ℤ cost_after (row_costs r) (Some k) o)
                    (filter (is_kept r) (all_orders (left r (with_place set k)))) o each_more
                    (first_among (cost_after (row_costs r) (Some k)) (filter (is_kept r) (all_orders (left r (with_place set k)))) o is))),
              )
            where
              turned : cost_after (row_costs r) last (line_at k ∷ o) ≡ (beside_last r last k +ℤ before_left r (with_place set k) k) +ℤ cost_after (row_costs r) (Some k) o
                  → cost_after (row_costs r) last (line_at k ∷ o) ≡ (cost_after (row_costs r) (Some k) o +ℤ before_left r (with_place set k) k) +ℤ beside_last r last k
              turned h = commuted (cost_after (row_costs r) last (line_at k ∷ o)) (beside_last r last k) (before_left r (with_place set k) k) (cost_after (row_costs r) (Some k) o) h
                where
                  commuted : (w b s c : ℤ) → w ≡ (b +ℤ s) +ℤ c → w ≡ (c +ℤ s) +ℤ b
                  commuted w b s c h = omega (arith, ints, h)

  -- the better of two choices
  no_cost : {A : Type 0} (o : Option A) (value : A → ℤ) → option_map value o ≡ None → o ≡ None
  no_cost None value h = refl
  no_cost (Some x) value h = absurd (some_none (value x) h)
    where
      some_none : (v : ℤ) → Some v ≡ None → ⊥
      some_none v e = cc

  some_cost : {A : Type 0} (o : Option A) (value : A → ℤ) (v : ℤ) → option_map value o ≡ Some v → (x : A) × (o ≡ Some x) × (value x ≡ v)
  some_cost None value v h = absurd (none_some v h)
    where
      none_some : (v : ℤ) → None ≡ Some v → ⊥
      none_some v e = cc
  some_cost (Some x) value v h = (x, refl, some_same (value x) v h)
    where
      some_same : (a b : ℤ) → Some a ≡ Some b → a ≡ b
      some_same a b e = cc

  better_of : (x y : Option Choice) → Tells r set last x → Tells r set last y
      → (better worth (chosen r set x) (chosen r set y) ≡ chosen r set (better_choice x y)) × Tells r set last (better_choice x y)
  better_of None y h k = (refl, k)
  better_of (Some x) None h k =
      let here = some_cost (chosen r set (Some x)) worth x.cost h in
      (ap (λ o. better worth o None) here.1 ∙ sym here.1, h)
  better_of (Some x) (Some y) h k =
      let here = some_cost (chosen r set (Some x)) worth x.cost h in
      let there = some_cost (chosen r set (Some y)) worth y.cost k in (
        ap (λ o. better worth o (chosen r set (Some y))) here.1
            ∙ (ap (λ o. better worth (Some here.0) o) there.1
            ∙ (ap (λ v. Some (cond (int_lt v (worth here.0)) there.0 here.0)) there.2
            ∙ (ap (λ v. Some (cond (int_lt y.cost v) there.0 here.0)) here.2
            ∙ by_test (int_lt y.cost x.cost) here.0 there.0 here.1 there.1))),
        told (int_lt y.cost x.cost),
      )
    where
      by_test : (b : Bool) (o p : List LineId) → chosen r set (Some x) ≡ Some o → chosen r set (Some y) ≡ Some p → Some (cond b p o) ≡ chosen r set (cond b (Some y) (Some x))
      by_test true o p e f = sym f
      by_test false o p e f = sym e

      told : (b : Bool) → Tells r set last (cond b (Some y) (Some x))
      told true = k
      told false = h

  -- those of the lines from a place on
  from_here : (n k m : ℕ) → AllByRecursion (λ (p : Pick). suc (length p.1) ≡ suc n) (free_picks set 0 r.count k m)
      → IsBestOf (choice_from r set last k m) (flat_map (λ (p : Pick). map (λ (o : List LineId). p.0 ∷ o) (orders_of n p.1)) (free_picks set 0 r.count k m))
  from_here n k zero h = (refl, refl)
  from_here n k (suc m) h = by_test (has_place set k) refl h (λ g. from_here n (k + 1) m g)
    where
      grown : List Pick → List (List LineId)
      grown ps = flat_map (λ (p : Pick). map (λ (o : List LineId). p.0 ∷ o) (orders_of n p.1)) ps

      by_test : (b : Bool) → has_place set k ≡ b
          → AllByRecursion (λ (p : Pick). suc (length p.1) ≡ suc n) (cond b (free_picks set 0 r.count (k + 1) m) ((line_at k, left_from (with_place set k) 0 r.count) ∷ free_picks set 0 r.count (k + 1) m))
          → (AllByRecursion (λ (p : Pick). suc (length p.1) ≡ suc n) (free_picks set 0 r.count (k + 1) m)
          → IsBestOf (choice_from r set last (k + 1) m) (flat_map (λ (p : Pick). map (λ (o : List LineId). p.0 ∷ o) (orders_of n p.1)) (free_picks set 0 r.count (k + 1) m)))
          → IsBestOf (better_choice (choice_of r last k (first_cost r set k)) (choice_from r set last (k + 1) m))
          (flat_map (λ (p : Pick). map (λ (o : List LineId). p.0 ∷ o) (orders_of n p.1)) (cond b (free_picks set 0 r.count (k + 1) m) ((line_at k, left_from (with_place set k) 0 r.count) ∷ free_picks set 0 r.count (k + 1) m)))
      by_test true e g rest =
          let gone : first_cost r set k ≡ None = rw e refl in
          subst (λ f. IsBestOf (better_choice (choice_of r last k f) (choice_from r set last (k + 1) m)) (flat_map (λ (p : Pick). map (λ (o : List LineId). p.0 ∷ o) (orders_of n p.1)) (free_picks set 0 r.count (k + 1) m))) (sym gone) (rest g)
      by_test false e g rest =
          let here : IsBestOf (choice_of r last k (first_cost r set k)) (map (λ (o : List LineId). line_at k ∷ o) (orders_of n (left r (with_place set k)))) =
          subst (λ j. IsBestOf (choice_of r last k (first_cost r set k)) (map (λ (o : List LineId). line_at k ∷ o) (orders_of j (left r (with_place set k))))) (omega (arith, g.0)) (one_choice k e) in
          let later = rest g.1 in
          let both = better_of (choice_of r last k (first_cost r set k)) (choice_from r set last (k + 1) m) here.1 later.1 in
          let first = map (λ (o : List LineId). line_at k ∷ o) (orders_of n (left r (with_place set k))) in (
            ap (first_least worth) (filter-append (is_kept r) (map (λ (o : List LineId). line_at k ∷ o) (orders_of n (left r (with_place set k)))) (grown (free_picks set 0 r.count (k + 1) m)))
                ∙ (first_least-append worth (filter (is_kept r) (map (λ (o : List LineId). line_at k ∷ o) (orders_of n (left r (with_place set k))))) (filter (is_kept r) (grown (free_picks set 0 r.count (k + 1) m)))
                ∙ (ap (λ o. better worth o (first_least worth (filter (is_kept r) (grown (free_picks set 0 r.count (k + 1) m))))) here.0
                ∙ (ap (λ o. better worth (chosen r set (choice_of r last k (first_cost r set k))) o) later.0 ∙ both.0))),
            both.1,
          )

  -- the best choice leads to the best order, and tells its cost
  pub goes_on : 0 < length (left r set) → (best_after r set last ≡ chosen r set (choice r set last)) × (rest_cost r set last ≡ option_map (λ (x : Choice). x.cost) (choice r set last))
  goes_on some = by_left (left r set) refl some
    where
      by_left : (xs : List LineId) → left r set ≡ xs → 0 < length xs → (best_after r set last ≡ chosen r set (choice r set last)) × (rest_cost r set last ≡ option_map (λ (x : Choice). x.cost) (choice r set last))
      by_left [] is some = absurd (omega (arith, some))
      by_left (x ∷ xs) is some =
          let lengths : AllByRecursion (λ (p : Pick). suc (length p.1) ≡ suc (length xs)) (free_picks set 0 r.count 0 r.count) =
          subst (λ ps. AllByRecursion (λ (p : Pick). suc (length p.1) ≡ suc (length xs)) ps) (picks_of_left set 0 r.count)
          (subst (λ l. AllByRecursion (λ (p : Pick). suc (length p.1) ≡ length l) (picks (left r set))) is (pick_lengths (left r set))) in
          let found = from_here (length xs) 0 r.count lengths in
          let orders : all_orders (left r set) ≡ flat_map (λ (p : Pick). map (λ (o : List LineId). p.0 ∷ o) (orders_of (length xs) p.1)) (free_picks set 0 r.count 0 r.count) =
          ap (λ l. orders_of (length l) (left r set)) is
          ∙ ap (λ ps. flat_map (λ (p : Pick). map (λ (o : List LineId). p.0 ∷ o) (orders_of (length xs) p.1)) ps) (picks_of_left set 0 r.count) in
          let best : best_after r set last ≡ chosen r set (choice r set last) = ap (λ os. first_least worth (filter (is_kept r) os)) orders ∙ found.0 in
          (best, ap (option_map worth) best ∙ found.1)

-- where no line is left, nothing is added
pub ends : (r : Rows) (set : ℕ) (last : Option ℕ) → left r set ≡ [] → (best_after r set last ≡ Some []) × (rest_cost r set last ≡ Some (pos 0))
ends r set last is = (best last, ap (option_map (cost_after (row_costs r) last)) (best last) ∙ nothing last)
  where
    best : (last : Option ℕ) → best_after r set last ≡ Some []
    best last = ap (λ l. first_least (cost_after (row_costs r) last) (filter (is_kept r) (all_orders l))) is

    nothing : (last : Option ℕ) → Some (cost_after (row_costs r) last []) ≡ Some (pos 0)
    nothing None = refl
    nothing (Some l) = ap Some (zeros)
      where
        zeros : pos 0 +ℤ pos 0 ≡ pos 0
        zeros = omega (arith, ints)
