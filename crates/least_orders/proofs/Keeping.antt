-- The settled pairs of rows are kept where no line stands before one that has to be ahead of it.
use Rattle.std.proofs.Common.{◌≡◌, ℕ, zero, suc, ◌+◌, ◌<◌, ◌==◌, ◌||◌, ◌&&◌, not, Bool, true, false, cond, List, [], ◌∷◌, length, map, filter, refl, sym, ◌∙◌, ap, subst, arith, ◌⊎◌, inl, inr, true≢false, eq-eqb, Option, None}
use Rattle.std.specs.Prelude.{IsPermutation}
use Rattle.std.specs.Int.{bit_at}
use Rattle.std.specs.List.{AllByRecursion, IsDistinct, list_any, flat_map}
use Rattle.std.specs.Option.{option_map}
use Rattle.std.proofs.lemmas.Bool.{and_parts, and_from, not-true}
use Rattle.std.proofs.lemmas.Nat.Bits.{bit_at-zero}
use Rattle.map_base.specs.declared.ids.LineId.{LineId}
use Rattle.graph_core.specs.Consistent.{AreRising}
use Rattle.order_model.specs.Costs.{comes_before}
use Rattle.order_model.specs.Prefixes.{is_placed}
use Rattle.order_model.proofs.Lines.{either_true, same_line, has_permutation, order_distinct}
use Rattle.least_orders.specs.OrderCosts.{order_cost}
use Rattle.least_orders.specs.Arrangements.{all_orders, keeps, kept_orders}
use Rattle.least_orders.specs.LeastOrders.{first_least, least_order, least_cost}
use Rattle.least_orders.specs.Rows.{Rows, AreRows, line_at, lines_from, row_lines, row_costs, is_ahead, row_pairs}
use Rattle.least_orders.specs.Subsets.{has_place, left_from, left, is_kept, cost_after, best_after, rest_cost}
use Rattle.least_orders.proofs.Lists.{Among, each_at, each_among, each_map, each_flat_map, each_weaker, among_map, among_flat_map, among_filter, filter_same, all_at, all_from, same_test}
use Rattle.least_orders.proofs.LeastValues.{least_of_first}
use Rattle.least_orders.proofs.Arranging.{order_is_permutation}

abbrev same : LineId → LineId → Bool
same a b = a.0 == b.0

-- Lines and lists.

pub placed_among : (xs : List LineId) (a : LineId) → is_placed xs a ≡ true → Among a xs
placed_among [] a h = absurd (true≢false (sym h))
placed_among (x ∷ xs) a h = elim (either_true (x.0 == a.0) (is_placed xs a) h) [
  | inl here ↦ inl (sym (same_line x a here))
  | inr later ↦ inr (placed_among xs a later)
]

pub among_placed : (xs : List LineId) (a : LineId) → Among a xs → is_placed xs a ≡ true
among_placed [] a h = absurd h
among_placed (x ∷ xs) a (inl is) = ap (λ t. t || is_placed xs a) (eq-eqb x.0 a.0 (ap (λ (u : LineId). u.0) (sym is)))
among_placed (x ∷ xs) a (inr later) = or_right (x.0 == a.0) (is_placed xs a) (among_placed xs a later)
  where
    or_right : (s t : Bool) → t ≡ true → (s || t) ≡ true
    or_right true t h = refl
    or_right false t h = h

none_any : (p : LineId → Bool) (xs : List LineId) → ((b : LineId) → Among b xs → p b ≡ false) → list_any p xs ≡ false
none_any p [] f = refl
none_any p (x ∷ xs) f = ap (λ t. t || list_any p xs) (f x (inl refl)) ∙ none_any p xs (λ b h. f b (inr h))

not_any : (p : LineId → Bool) (xs : List LineId) (b : LineId) → list_any p xs ≡ false → Among b xs → p b ≡ false
not_any p [] b h k = absurd k
not_any p (x ∷ xs) b h (inl is) = ap p is ∙ (parts (p x) (list_any p xs) h).0
  where
    parts : (s t : Bool) → (s || t) ≡ false → (s ≡ false) × (t ≡ false)
    parts true t e = absurd (true≢false e)
    parts false t e = (refl, e)
not_any p (x ∷ xs) b h (inr later) = not_any p xs b (second (p x) (list_any p xs) h) later
  where
    second : (s t : Bool) → (s || t) ≡ false → t ≡ false
    second true t e = absurd (true≢false e)
    second false t e = e

each_that_passes : {A : Type 0} (P : A → Type 0) (p : A → Bool) (xs : List A) → AllByRecursion P xs → AllByRecursion (λ x. P x × (p x ≡ true)) (filter p xs)
each_that_passes P p [] h = tt
each_that_passes {A = A} P p (x ∷ xs) h = by_test (p x) refl (each_that_passes P p xs h.1)
  where
    by_test : (b : Bool) → p x ≡ b → AllByRecursion (λ x. P x × (p x ≡ true)) (filter p xs) → AllByRecursion (λ x. P x × (p x ≡ true)) (cond b (x ∷ filter p xs) (filter p xs))
    by_test true e rest = ((h.0, e), rest)
    by_test false e rest = rest

-- no line of the rest is the first
apart_from : (x : LineId) (xs : List LineId) (b : LineId) → AllByRecursion (λ y. same x y ≡ false) xs → Among b xs → (x.0 == b.0) ≡ false
apart_from x xs b h k = each_at (λ y. same x y ≡ false) xs b h k

-- An order is kept exactly where each line comes before those that it has to be ahead of.

abbrev pub ComeAhead : Rows → List LineId → Type 0
ComeAhead r o = (a b : LineId) → Among a o → Among b o → is_ahead r a b ≡ true → comes_before o a b ≡ true

pub kept_from : (r : Rows) (o : List LineId) → IsDistinct same o → ComeAhead r o → is_kept r o ≡ true
unfolding IsDistinct
kept_from r [] distinct h = refl
kept_from r (x ∷ o) distinct h = and_from (not (list_any (λ (b : LineId). is_ahead r b x) o)) (is_kept r o)
    (ap not (none_any (λ (b : LineId). is_ahead r b x) o (λ b k. by_test b k (is_ahead r b x) refl)))
    (kept_from r o distinct.1 rest)
  where
    step : (a b : LineId) → (x.0 == a.0) ≡ false → comes_before (x ∷ o) a b ≡ cond (x.0 == b.0) false (comes_before o a b)
    step a b e = ap (λ t. cond t true (cond (x.0 == b.0) false (comes_before o a b))) e

    by_test : (b : LineId) → Among b o → (t : Bool) → is_ahead r b x ≡ t → t ≡ false
    by_test b k false e = refl
    by_test b k true e =
        let before : comes_before (x ∷ o) b x ≡ true = h b x (inr k) (inl refl) e in
        absurd (true≢false (sym before ∙ (step b x (apart_from x o b distinct.0 k) ∙ ap (λ t. cond t false (comes_before o b x)) (eq-eqb x.0 x.0 refl))))

    rest : (a b : LineId) → Among a o → Among b o → is_ahead r a b ≡ true → comes_before o a b ≡ true
    rest a b here there ahead =
        sym (step a b (apart_from x o a distinct.0 here) ∙ ap (λ t. cond t false (comes_before o a b)) (apart_from x o b distinct.0 there)) ∙ h a b (inr here) (inr there) ahead

pub kept_gives : (r : Rows) (o : List LineId) → is_kept r o ≡ true → ComeAhead r o
kept_gives r [] kept a b here there ahead = absurd here
kept_gives r (x ∷ o) kept a b here there ahead =
    by_first (x.0 == a.0) refl (λ k l. kept_gives r o (and_parts (not (list_any (λ (c : LineId). is_ahead r c x) o)) (is_kept r o) kept).1 a b k l ahead)
  where
    none_ahead : list_any (λ (c : LineId). is_ahead r c x) o ≡ false
    none_ahead = not-true (list_any (λ (c : LineId). is_ahead r c x) o) (and_parts (not (list_any (λ (c : LineId). is_ahead r c x) o)) (is_kept r o) kept).0

    later : (c : LineId) → (x.0 == c.0) ≡ false → (c ≡ x) ⊎ Among c o → Among c o
    later c e (inl is) = absurd (true≢false (sym (eq-eqb x.0 c.0 (ap (λ (u : LineId). u.0) (sym is))) ∙ e))
    later c e (inr h) = h

    by_first : (t : Bool) → (x.0 == a.0) ≡ t → (Among a o → Among b o → comes_before o a b ≡ true) → cond t true (cond (x.0 == b.0) false (comes_before o a b)) ≡ true
    by_first true e rest = refl
    by_first false e rest = by_second (x.0 == b.0) refl (later a e here)
      where
        by_second : (s : Bool) → (x.0 == b.0) ≡ s → Among a o → cond s false (comes_before o a b) ≡ true
        by_second true f k =
            let none : is_ahead r a x ≡ false = not_any (λ (c : LineId). is_ahead r c x) o a none_ahead k in
            absurd (true≢false (sym ahead ∙ (ap (λ (u : LineId). is_ahead r a u) (sym (same_line x b f)) ∙ none)))
        by_second false f k = rest k (later b f there)

-- The settled pairs of rows.

rising_from : (k n : ℕ) → AreRising (lines_from k n)
rising_from k zero = tt
rising_from k (suc zero) = tt
rising_from k (suc (suc n)) = (omega arith, rising_from (k + 1) (suc n))

pub row_lines_rise : (r : Rows) → AreRising (row_lines r)
row_lines_rise r = rising_from 0 r.count

-- both lines of a settled pair are of the rows, and the first has to be ahead
abbrev IsRowPair : Rows → LineId × LineId → Type 0
IsRowPair r p = (is_placed (row_lines r) p.0 ≡ true) × (is_placed (row_lines r) p.1 ≡ true) × (is_ahead r p.0 p.1 ≡ true)

pairs_are : (r : Rows) → AllByRecursion (IsRowPair r) (row_pairs r)
pairs_are r =
    each_flat_map (IsRowPair r) (λ (b : LineId). map (λ (a : LineId). (a, b)) (filter (λ (a : LineId). is_ahead r a b) (row_lines r))) (row_lines r)
    (each_among (λ (b : LineId). AllByRecursion (IsRowPair r) (map (λ (a : LineId). (a, b)) (filter (λ (a : LineId). is_ahead r a b) (row_lines r)))) (row_lines r)
    (λ b k.
    each_map (IsRowPair r) (λ (a : LineId). (a, b)) (filter (λ (a : LineId). is_ahead r a b) (row_lines r))
    (each_weaker (λ (a : LineId). (is_placed (row_lines r) a ≡ true) × (is_ahead r a b ≡ true)) (λ (a : LineId). IsRowPair r (a, b)) (filter (λ (a : LineId). is_ahead r a b) (row_lines r))
    (λ a h. (h.0, among_placed (row_lines r) b k, h.1))
    (each_that_passes (λ (a : LineId). is_placed (row_lines r) a ≡ true) (λ (a : LineId). is_ahead r a b) (row_lines r)
    (each_among (λ (a : LineId). is_placed (row_lines r) a ≡ true) (row_lines r) (λ a h. among_placed (row_lines r) a h))))))

pub row_pair_among : (r : Rows) (a b : LineId) → Among a (row_lines r) → Among b (row_lines r) → is_ahead r a b ≡ true → Among (a, b) (row_pairs r)
row_pair_among r a b here there ahead =
    among_flat_map (λ (b : LineId). map (λ (a : LineId). (a, b)) (filter (λ (a : LineId). is_ahead r a b) (row_lines r))) b (a, b) (row_lines r) there
    (among_map (λ (a : LineId). (a, b)) a (filter (λ (a : LineId). is_ahead r a b) (row_lines r)) (among_filter (λ (a : LineId). is_ahead r a b) a (row_lines r) here ahead))

-- an order of the rows' lines keeps the settled pairs exactly where it is kept
pub keeps_as_kept : (r : Rows) (o : List LineId) → IsPermutation (row_lines r) o → keeps (row_pairs r) o ≡ is_kept r o
keeps_as_kept r o moved = same_test (keeps (row_pairs r) o) (is_kept r o) forward backward
  where
    known : (a : LineId) → Among a o → Among a (row_lines r)
    known a h = placed_among (row_lines r) a (has_permutation (row_lines r) o a moved ∙ among_placed o a h)

    in_order : (a : LineId) → is_placed (row_lines r) a ≡ true → Among a o
    in_order a h = placed_among o a (sym (has_permutation (row_lines r) o a moved) ∙ h)

    forward : keeps (row_pairs r) o ≡ true → is_kept r o ≡ true
    forward h = kept_from r o (order_distinct (row_lines r) o (row_lines_rise r) moved)
        (λ a b here there ahead. all_at (λ (p : LineId × LineId). comes_before o p.0 p.1) (row_pairs r) (a, b) h (row_pair_among r a b (known a here) (known b there) ahead))

    backward : is_kept r o ≡ true → keeps (row_pairs r) o ≡ true
    backward h = all_from (λ (p : LineId × LineId). comes_before o p.0 p.1) (row_pairs r)
        (λ p k. let is = each_at (IsRowPair r) (row_pairs r) p (pairs_are r) k in kept_gives r o h p.0 p.1 (in_order p.0 is.0) (in_order p.1 is.1) is.2)

-- at first all lines are left
left_at_first : (k n : ℕ) → left_from 0 k n ≡ lines_from k n
left_at_first k zero = refl
left_at_first k (suc n) =
    ap (λ m. cond (m == 1) (left_from 0 (k + 1) n) (line_at k ∷ left_from 0 (k + 1) n)) (bit_at-zero k) ∙ ap (λ l. line_at k ∷ l) (left_at_first (k + 1) n)

kept_rows : (r : Rows) → kept_orders (row_pairs r) (row_lines r) ≡ filter (is_kept r) (all_orders (left r 0))
kept_rows r =
    filter_same (keeps (row_pairs r)) (is_kept r) (all_orders (row_lines r))
    (each_among (λ o. keeps (row_pairs r) o ≡ is_kept r o) (all_orders (row_lines r)) (λ o h. keeps_as_kept r o (order_is_permutation (row_lines r) o h)))
    ∙ ap (λ l. filter (is_kept r) (all_orders l)) (sym (left_at_first 0 r.count))

-- behind the empty set there is the least order of all
pub least_order_of_rows : (r : Rows) → least_order (row_costs r) (row_pairs r) (row_lines r) ≡ best_after r 0 None
least_order_of_rows r = ap (first_least (order_cost (row_costs r))) (kept_rows r)

pub least_cost_of_rows : (r : Rows) → least_cost (row_costs r) (row_pairs r) (row_lines r) ≡ rest_cost r 0 None
least_cost_of_rows r =
    least_of_first (order_cost (row_costs r)) (kept_orders (row_pairs r) (row_lines r)) ∙ ap (option_map (order_cost (row_costs r))) (least_order_of_rows r)
