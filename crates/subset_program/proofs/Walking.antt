-- Going forward over the table, each time to the best line.
use Rattle.std.proofs.Common.{◌≡◌, ℕ, zero, suc, ◌+◌, ◌<◌, ◌≤◌, ◌==◌, Bool, true, false, cond, List, [], ◌∷◌, ◌++◌, length, map, take, set, refl, sym, ◌∙◌, ap, subst, arith, append_assoc, Option, Some, None}
use Rattle.std.specs.Prelude.{ℤ, pos, ◌+ℤ◌, int_lt}
use Rattle.std.specs.Option.{option_map}
use Rattle.std.proofs.lemmas.List.{map-append, append-nil, take_more_set, take_all}
use Rattle.std.proofs.lemmas.Nat.{pow_pos}
use Rattle.std.proofs.lemmas.Nat.Bits.{bit_at-zero}
use Rattle.map_base.specs.declared.ids.LineId.{LineId}
use Rattle.least_orders.specs.declared.choice.Choice.{Choice}
use Rattle.least_orders.specs.Rows.{Rows, AreRows, line_at, row_lines, row_costs, row_pairs}
use Rattle.least_orders.specs.LeastOrders.{least_order, least_cost}
use Rattle.least_orders.specs.Subsets.{has_place, with_place, left_from, left, cost_after, is_ready, before_left, best_after, rest_cost, first_cost, choice_of, better_choice, choice_from, choice}
use Rattle.least_orders.proofs.Stepping.{chosen, goes_on, ends}
use Rattle.least_orders.proofs.Keeping.{least_order_of_rows, least_cost_of_rows}
use Rattle.subset_program.specs.PlainRows.{ArePlacesOf}
use Rattle.subset_program.specs.Tables.{IsWalked, IsFirstFree}
use Rattle.subset_program.proofs.Places.{none_free, first_left, still_within, one_less}

-- The costs behind a set.

pub rest_at_end : (r : Rows) (set : ℕ) (last : Option ℕ) (free : ℕ) → IsFirstFree set r.count free → free ≡ r.count → Some (pos 0) ≡ rest_cost r set last
rest_at_end r set last free is e = sym (ends r set last (none_free set r.count free is e)).1

pub rest_by_choice : (r : Rows) → AreRows r → (set : ℕ) (last : Option ℕ) (free : ℕ) → IsFirstFree set r.count free → free < r.count
    → option_map (λ (c : Choice). c.cost) (choice r set last) ≡ rest_cost r set last
rest_by_choice r fits set last free is below =
    sym (goes_on r fits set last (subst (λ (l : List LineId). 0 < length l) (sym (first_left set r.count free is below)) (omega arith))).1

-- What a choice is.

some_same : {A : Type 0} (a b : A) → Some a ≡ Some b → a ≡ b
some_same a b e = cc

none_some : {A : Type 0} (a : A) → None ≡ Some a → ⊥
none_some a e = cc

abbrev IsFree : Rows → ℕ → ℕ → ℕ → Option Choice → Type 0
IsFree r set k m None = Unit {0}
IsFree r set k m (Some c) = (c.place < k + m) × (has_place set c.place ≡ false)

better_free : (r : Rows) (set k m : ℕ) (x y : Option Choice) → IsFree r set k m x → IsFree r set k m y → IsFree r set k m (better_choice x y)
better_free r set k m None y h g = g
better_free r set k m (Some x) None h g = h
better_free r set k m (Some x) (Some y) h g = by_test (int_lt y.cost x.cost)
  where
    by_test : (b : Bool) → IsFree r set k m (cond b (Some y) (Some x))
    by_test true = g
    by_test false = h

one_free : (r : Rows) (set : ℕ) (last : Option ℕ) (k m : ℕ) (v : Option ℤ) → (has_place set k ≡ true → v ≡ None) → IsFree r set k (suc m) (choice_of r last k v)
one_free r set last k m None h = tt
one_free r set last k m (Some v) h = (omega arith, by_test (has_place set k) refl)
  where
    by_test : (b : Bool) → has_place set k ≡ b → b ≡ false
    by_test true e = absurd (none_some v (sym (h e)))
    by_test false e = refl

weaker_free : (r : Rows) (set k m : ℕ) (c : Option Choice) → IsFree r set (k + 1) m c → IsFree r set k (suc m) c
weaker_free r set k m None h = tt
weaker_free r set k m (Some c) h = (let below = h.0 in omega (arith, below), h.1)

choice_free : (r : Rows) (set : ℕ) (last : Option ℕ) (k m : ℕ) → IsFree r set k m (choice_from r set last k m)
choice_free r set last k zero = tt
choice_free r set last k (suc m) =
    better_free r set k (suc m) (choice_of r last k (first_cost r set k)) (choice_from r set last (k + 1) m)
    (one_free r set last k m (first_cost r set k) (λ e. ap (λ b. cond {A = Option ℤ} b None (cond (is_ready r set k) (option_map (λ v. v +ℤ before_left r (with_place set k) k) (rest_cost r (with_place set k) (Some k))) None)) e))
    (weaker_free r set k m (choice_from r set last (k + 1) m) (choice_free r set last (k + 1) m))

pub chosen_free : (r : Rows) (set : ℕ) (last : Option ℕ) (c : Choice) → Some c ≡ choice r set last → (c.place < r.count) × (has_place set c.place ≡ false)
chosen_free r set last c e =
    let is : IsFree r set 0 r.count (Some c) = subst (IsFree r set 0 r.count) (sym e) (choice_free r set last 0 r.count) in
    (let below = is.0 in omega (arith, below), is.1)

-- The walk.

all_left : (k n : ℕ) → length (left_from 0 k n) ≡ n
all_left k zero = refl
all_left k (suc n) =
    ap (λ m. length (cond (m == 1) (left_from 0 (k + 1) n) (line_at k ∷ left_from 0 (k + 1) n))) (bit_at-zero k) ∙ ap suc (all_left (k + 1) n)

nothing_first : (o : Option (List LineId)) → o ≡ option_map (λ (rest : List LineId). [] ++ rest) o
nothing_first None = refl
nothing_first (Some o) = refl

-- at first
pub nothing_at_all : (r : Rows) → r.count ≡ 0 → Some (pos 0) ≡ rest_cost r 0 None
nothing_at_all r e = sym (ends r 0 None (ap (λ n. left_from 0 0 n) e)).1

pub whole_by_choice : (r : Rows) → AreRows r → 0 < r.count → option_map (λ (c : Choice). c.cost) (choice r 0 None) ≡ rest_cost r 0 None
whole_by_choice r fits some = sym (goes_on r fits 0 None (let each = all_left 0 r.count in omega (arith, each, some))).1

pub walk_begins : (r : Rows) (order : List ℕ) → IsWalked r 0 order 0 None
walk_begins r order = record {
  within = pow_pos r.count;
  known = tt;
  each = let each = all_left 0 r.count in omega (arith, each);
  best = nothing_first (best_after r 0 None);
}

one_further : (xs : List LineId) (a : LineId) (o : Option (List LineId)) → option_map (λ (rest : List LineId). xs ++ rest) (option_map (λ (rest : List LineId). a ∷ rest) o) ≡ option_map (λ (rest : List LineId). (xs ++ a ∷ []) ++ rest) o
one_further xs a None = refl
one_further xs a (Some o) = ap Some (sym (append_assoc xs (a ∷ []) o))

pub walk_goes_on : (r : Rows) → AreRows r → (i : ℕ) (order : List ℕ) (s : ℕ) (last : Option ℕ) (c : Choice) → i < r.count → length order ≡ r.count
    → IsWalked r i order s last → Some c ≡ choice r s last → IsWalked r (i + 1) (set order i c.place) (with_place s c.place) (Some c.place)
walk_goes_on r fits i order s last c below each walked e =
    let is = chosen_free r s last c e in
    let left_here = walked.each in
    let less = one_less s c.place r.count is.1 0 r.count (omega arith) (let place = is.0 in omega (arith, place)) in
    record {
      within = still_within s c.place r.count walked.within is.0;
      known = is.0;
      each = omega (arith, left_here, less);
      best =
          walked.best
          ∙ (ap (option_map (λ (rest : List LineId). map line_at (take i order) ++ rest)) ((goes_on r fits s last (omega (arith, left_here, below))).0 ∙ ap (chosen r s) (sym e))
          ∙ (one_further (map line_at (take i order)) (line_at c.place) (best_after r (with_place s c.place) (Some c.place))
          ∙ ap (λ (l : List LineId). option_map (λ (rest : List LineId). l ++ rest) (best_after r (with_place s c.place) (Some c.place)))
          (sym (ap (map line_at) (take_more_set order i c.place (omega (arith, below, each))) ∙ map-append line_at (take i order) (c.place ∷ [])))));
    }

pub walk_ends : (r : Rows) (i : ℕ) (order : List ℕ) (s : ℕ) (last : Option ℕ) → r.count ≤ i → length order ≡ r.count → IsWalked r i order s last
    → ArePlacesOf (least_order (row_costs r) (row_pairs r) (row_lines r)) order
walk_ends r i order s last over each walked =
    let here = walked.each in
    let whole : take i order ≡ order = take_all i order (omega (arith, over, each)) in
    subst (λ o. ArePlacesOf o order)
    (sym (least_order_of_rows r ∙ (walked.best ∙ (ap (option_map (λ (rest : List LineId). map line_at (take i order) ++ rest)) (ends r s last (no_lines (left r s) (omega (arith, here, over)))).0
    ∙ ap Some (append-nil (map line_at (take i order)) ∙ ap (map line_at) whole)))))
    refl
  where
    no_lines : (l : List LineId) → length l ≡ 0 → l ≡ []
    no_lines [] h = refl
    no_lines (a ∷ l) h = absurd (omega (arith, h))

pub walk_stops : (r : Rows) → AreRows r → (i : ℕ) (order : List ℕ) (s : ℕ) (last : Option ℕ) → i < r.count → IsWalked r i order s last → None ≡ choice r s last
    → ArePlacesOf (least_order (row_costs r) (row_pairs r) (row_lines r)) order
walk_stops r fits i order s last below walked e =
    let here = walked.each in
    subst (λ o. ArePlacesOf o order)
    (sym (least_order_of_rows r ∙ (walked.best ∙ ap (option_map (λ (rest : List LineId). map line_at (take i order) ++ rest)) ((goes_on r fits s last (omega (arith, here, below))).0 ∙ ap (chosen r s) (sym e)))))
    tt

-- where there is no least cost, there is no least order
pub no_order : (r : Rows) (order : List ℕ) → None ≡ least_cost (row_costs r) (row_pairs r) (row_lines r) → ArePlacesOf (least_order (row_costs r) (row_pairs r) (row_lines r)) order
no_order r order e = by_best (best_after r 0 None) refl
  where
    by_best : (o : Option (List LineId)) → best_after r 0 None ≡ o → ArePlacesOf (least_order (row_costs r) (row_pairs r) (row_lines r)) order
    by_best None is = subst (λ o. ArePlacesOf o order) (sym (least_order_of_rows r ∙ is)) tt
    by_best (Some o) is = absurd (none_some (cost_after (row_costs r) None o) (e ∙ (least_cost_of_rows r ∙ ap (option_map (cost_after (row_costs r) None)) is)))
