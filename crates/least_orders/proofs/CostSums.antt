-- What orders cost under sums of costs, and under what one pair of lines costs.
use Rattle.std.proofs.Common.{◌≡◌, ℕ, ◌+◌, ◌==◌, ◌||◌, ◌&&◌, Bool, true, false, cond, List, [], ◌∷◌, refl, sym, ◌∙◌, ap, subst, arith, ◌⊎◌, inl, inr, true≢false, eq-eqb}
use Rattle.std.specs.Prelude.{ℤ, pos, ◌+ℤ◌, ◌-ℤ◌}
use Rattle.std.specs.List.{AllByRecursion, IsDistinct, list_any}
use Rattle.std.proofs.lemmas.Bool.Decides.{nat_tests}
use Rattle.std.proofs.lemmas.Int.{ints}
use Rattle.map_base.specs.declared.ids.LineId.{LineId}
use Rattle.order_model.specs.Costs.{comes_before, are_these, are_neighbours}
use Rattle.order_model.specs.Prefixes.{is_placed}
use Rattle.order_model.proofs.Lines.{either_true, same_line}
use Rattle.whole_sums.specs.Sums.{int_sum}
use Rattle.whole_sums.proofs.Sums.{int_sum_swap, int_sum_both, int_sum_zero}
use Rattle.least_orders.specs.OrderCosts.{PairCosts, beside_next, order_cost, summed_costs, less_costs, no_costs, cost_before, cost_beside}

abbrev same : LineId → LineId → Bool
same a b = a.0 == b.0

-- the cost under a sum of costs is the sum of the costs
pub order_cost_sum : {A : Type 0} (costs : A → PairCosts) (xs : List A) (o : List LineId) → order_cost (summed_costs costs xs) o ≡ int_sum (λ x. order_cost (costs x) o) xs
order_cost_sum costs xs [] = sym (int_sum_zero xs)
order_cost_sum {A = A} costs xs (a ∷ o) =
    ap (λ v. (v +ℤ beside_next (summed_costs costs xs) a o) +ℤ order_cost (summed_costs costs xs) o) (int_sum_swap (λ (b : LineId) (x : A). (costs x).before a b) o xs)
    ∙ (ap (λ v. (int_sum (λ x. int_sum ((costs x).before a) o) xs +ℤ v) +ℤ order_cost (summed_costs costs xs) o) (next o)
    ∙ (ap (λ v. (int_sum (λ x. int_sum ((costs x).before a) o) xs +ℤ int_sum (λ x. beside_next (costs x) a o) xs) +ℤ v) (order_cost_sum costs xs o)
    ∙ (ap (λ v. v +ℤ int_sum (λ x. order_cost (costs x) o) xs) (sym (int_sum_both (λ x. int_sum ((costs x).before a) o) (λ x. beside_next (costs x) a o) xs))
    ∙ sym (int_sum_both (λ x. int_sum ((costs x).before a) o +ℤ beside_next (costs x) a o) (λ x. order_cost (costs x) o) xs))))
  where
    next : (o : List LineId) → beside_next (summed_costs costs xs) a o ≡ int_sum (λ x. beside_next (costs x) a o) xs
    next [] = sym (int_sum_zero xs)
    next (b ∷ o) = refl

sum_less : {A : Type 0} (f g : A → ℤ) (xs : List A) → int_sum (λ x. f x -ℤ g x) xs ≡ int_sum f xs -ℤ int_sum g xs
sum_less f g [] = omega (arith, ints)
sum_less f g (x ∷ xs) = let rest = sum_less f g xs in omega (arith, ints, rest)

-- and under a difference the difference
pub order_cost_less : (c d : PairCosts) (o : List LineId) → order_cost (less_costs c d) o ≡ order_cost c o -ℤ order_cost d o
order_cost_less c d [] = omega (arith, ints)
order_cost_less c d (a ∷ o) =
    grouped (int_sum (λ b. c.before a b -ℤ d.before a b) o) (int_sum (c.before a) o) (int_sum (d.before a) o) (beside_next (less_costs c d) a o) (beside_next c a o) (beside_next d a o)
    (order_cost (less_costs c d) o) (order_cost c o) (order_cost d o) (sum_less (c.before a) (d.before a) o) (next o) (order_cost_less c d o)
  where
    next : (o : List LineId) → beside_next (less_costs c d) a o ≡ beside_next c a o -ℤ beside_next d a o
    next [] = omega (arith, ints)
    next (b ∷ o) = refl

    grouped : (s t u b e f r v w : ℤ) → s ≡ t -ℤ u → b ≡ e -ℤ f → r ≡ v -ℤ w → (s +ℤ b) +ℤ r ≡ ((t +ℤ e) +ℤ v) -ℤ ((u +ℤ f) +ℤ w)
    grouped s t u b e f r v w h k m = omega (arith, ints, h, k, m)

pub order_cost_none : (o : List LineId) → order_cost no_costs o ≡ pos 0
order_cost_none [] = refl
order_cost_none (a ∷ o) =
    let sum : int_sum (λ (b : LineId). pos 0) o ≡ pos 0 = int_sum_zero o in
    let rest = order_cost_none o in
    ap (λ v. (v +ℤ beside_next no_costs a o) +ℤ order_cost no_costs o) sum ∙ (ap (λ v. (pos 0 +ℤ v) +ℤ order_cost no_costs o) (next o) ∙ omega (arith, ints, rest))
  where
    next : (o : List LineId) → beside_next no_costs a o ≡ pos 0
    next [] = refl
    next (b ∷ o) = refl

-- One pair, by which of the two stands before the other.

-- no line costs anything behind a line that is not the first of the pair
other_first : (a b : LineId) (c : ℤ) (x : LineId) (o : List LineId) → (x.0 == a.0) ≡ false → int_sum ((cost_before a b c).before x) o ≡ pos 0
other_first a b c x [] h = refl
other_first a b c x (y ∷ o) h = let rest = other_first a b c x o h in ap (λ t. cond (t && (y.0 == b.0)) c (pos 0) +ℤ int_sum ((cost_before a b c).before x) o) h ∙ omega (arith, ints, rest)

-- the second of the pair is not behind
no_second : (a b : LineId) (c : ℤ) (x : LineId) (o : List LineId) → AllByRecursion (λ y. same b y ≡ false) o → int_sum ((cost_before a b c).before x) o ≡ pos 0
no_second a b c x [] h = refl
no_second a b c x (y ∷ o) h =
    let rest = no_second a b c x o h.1 in
    ap (λ t. cond t c (pos 0) +ℤ int_sum ((cost_before a b c).before x) o) (never (x.0 == a.0) (y.0 == b.0) (flipped b.0 y.0 h.0)) ∙ omega (arith, ints, rest)
  where
    flipped : (m n : ℕ) → (m == n) ≡ false → (n == m) ≡ false
    flipped m n h = grind (arith, nat_tests)

    never : (s t : Bool) → t ≡ false → (s && t) ≡ false
    never true t h = h
    never false t h = refl

next_before : (a b : LineId) (c : ℤ) (x : LineId) (o : List LineId) → beside_next (cost_before a b c) x o ≡ pos 0
next_before a b c x [] = refl
next_before a b c x (y ∷ o) = refl

-- where the second is none of them, the pair costs nothing
none_behind : (a b : LineId) (c : ℤ) (o : List LineId) → AllByRecursion (λ y. same b y ≡ false) o → order_cost (cost_before a b c) o ≡ pos 0
none_behind a b c [] h = refl
none_behind a b c (x ∷ o) h =
    let sum = no_second a b c x o h.1 in
    let next = next_before a b c x o in
    let rest = none_behind a b c o h.1 in
    omega (arith, ints, sum, next, rest)

-- where the first is none of them
none_before : (a b : LineId) (c : ℤ) (o : List LineId) → AllByRecursion (λ y. same a y ≡ false) o → order_cost (cost_before a b c) o ≡ pos 0
none_before a b c [] h = refl
none_before a b c (x ∷ o) h =
    let sum = other_first a b c x o (flipped a.0 x.0 h.0) in
    let next = next_before a b c x o in
    let rest = none_before a b c o h.1 in
    omega (arith, ints, sum, next, rest)
  where
    flipped : (m n : ℕ) → (m == n) ≡ false → (n == m) ≡ false
    flipped m n h = grind (arith, nat_tests)

-- the second stands once behind the first
second_once : (a b : LineId) (c : ℤ) (x : LineId) (o : List LineId) → (x.0 == a.0) ≡ true → IsDistinct same o → is_placed o b ≡ true → int_sum ((cost_before a b c).before x) o ≡ c
unfolding IsDistinct
second_once a b c x [] h distinct has = absurd (true≢false (sym has))
second_once a b c x (y ∷ o) h distinct has =
    ap (λ t. cond (t && (y.0 == b.0)) c (pos 0) +ℤ int_sum ((cost_before a b c).before x) o) h ∙ by_test (y.0 == b.0) refl (either_true (y.0 == b.0) (is_placed o b) has) (λ k. second_once a b c x o h distinct.1 k)
  where
    by_test : (t : Bool) → (y.0 == b.0) ≡ t → ((y.0 == b.0) ≡ true) ⊎ (is_placed o b ≡ true) → (is_placed o b ≡ true → int_sum ((cost_before a b c).before x) o ≡ c)
        → cond t c (pos 0) +ℤ int_sum ((cost_before a b c).before x) o ≡ c
    by_test true e k rest =
        let none = no_second a b c x o (subst (λ u. AllByRecursion (λ z. same u z ≡ false) o) (same_line y b e) distinct.0) in
        omega (arith, ints, none)
    by_test false e (inl k) rest = absurd (true≢false (sym k ∙ e))
    by_test false e (inr k) rest = let more = rest k in omega (arith, ints, more)

pub order_cost_before : (a b : LineId) (c : ℤ) (o : List LineId) → IsDistinct same o → (a.0 == b.0) ≡ false → is_placed o b ≡ true
    → order_cost (cost_before a b c) o ≡ cond (comes_before o a b) c (pos 0)
unfolding IsDistinct
order_cost_before a b c [] distinct apart has = absurd (true≢false (sym has))
order_cost_before a b c (x ∷ o) distinct apart has =
    by_first (x.0 == a.0) refl (x.0 == b.0) refl (either_true (x.0 == b.0) (is_placed o b) has) (λ k. order_cost_before a b c o distinct.1 apart k)
  where
    differ : (x.0 == a.0) ≡ true → (x.0 == b.0) ≡ true → ⊥
    differ e f = true≢false (sym f ∙ (ap (λ (u : LineId). u.0 == b.0) (same_line x a e) ∙ apart))

    by_first : (s : Bool) → (x.0 == a.0) ≡ s → (t : Bool) → (x.0 == b.0) ≡ t → ((x.0 == b.0) ≡ true) ⊎ (is_placed o b ≡ true)
        → (is_placed o b ≡ true → order_cost (cost_before a b c) o ≡ cond (comes_before o a b) c (pos 0))
        → (int_sum ((cost_before a b c).before x) o +ℤ beside_next (cost_before a b c) x o) +ℤ order_cost (cost_before a b c) o ≡ cond (cond s true (cond t false (comes_before o a b))) c (pos 0)
    by_first true e true f k rest = absurd (differ e f)
    by_first true e false f (inl k) rest = absurd (true≢false (sym k ∙ f))
    by_first true e false f (inr k) rest =
        let sum = second_once a b c x o e distinct.1 k in
        let next = next_before a b c x o in
        let none = none_before a b c o (subst (λ u. AllByRecursion (λ z. same u z ≡ false) o) (same_line x a e) distinct.0) in
        omega (arith, ints, sum, next, none)
    by_first false e true f k rest =
        let sum = other_first a b c x o e in
        let next = next_before a b c x o in
        let none = none_behind a b c o (subst (λ u. AllByRecursion (λ z. same u z ≡ false) o) (same_line x b f) distinct.0) in
        omega (arith, ints, sum, next, none)
    by_first false e false f (inl k) rest = absurd (true≢false (sym k ∙ f))
    by_first false e false f (inr k) rest =
        let sum = other_first a b c x o e in
        let next = next_before a b c x o in
        let more = rest k in
        omega (arith, ints, sum, next) ∙ more

-- One pair, by whether the two are neighbours.

beside_sum : (a b : LineId) (c : ℤ) (x : LineId) (o : List LineId) → int_sum ((cost_beside a b c).before x) o ≡ pos 0
beside_sum a b c x o = int_sum_zero o

-- where one of the two is none of them, they are no neighbours and cost nothing
not_these : (a b x y : LineId) → (a.0 == x.0) ≡ false → (a.0 == y.0) ≡ false → are_these x y a b ≡ false
not_these a b x y h k = grind (arith, nat_tests)

not_these_too : (a b x y : LineId) → (b.0 == x.0) ≡ false → (b.0 == y.0) ≡ false → are_these x y a b ≡ false
not_these_too a b x y h k = grind (arith, nat_tests)

no_neighbours : (a b : LineId) (c : ℤ) (o : List LineId) → AllByRecursion (λ z. same a z ≡ false) o → (order_cost (cost_beside a b c) o ≡ pos 0) × (are_neighbours o a b ≡ false)
no_neighbours a b c [] h = (refl, refl)
no_neighbours a b c (x ∷ []) h = (omega (arith, ints), refl)
no_neighbours a b c (x ∷ y ∷ o) h =
    let none = not_these a b x y h.0 h.1.0 in
    let rest = no_neighbours a b c (y ∷ o) h.1 in
    let more = rest.0 in
    let sum = beside_sum a b c x (y ∷ o) in
    (ap (λ t. (int_sum ((cost_beside a b c).before x) (y ∷ o) +ℤ cond t c (pos 0)) +ℤ order_cost (cost_beside a b c) (y ∷ o)) none ∙ omega (arith, ints, sum, more), ap (λ t. t || are_neighbours (y ∷ o) a b) none ∙ rest.1)

no_neighbours_too : (a b : LineId) (c : ℤ) (o : List LineId) → AllByRecursion (λ z. same b z ≡ false) o → (order_cost (cost_beside a b c) o ≡ pos 0) × (are_neighbours o a b ≡ false)
no_neighbours_too a b c [] h = (refl, refl)
no_neighbours_too a b c (x ∷ []) h = (omega (arith, ints), refl)
no_neighbours_too a b c (x ∷ y ∷ o) h =
    let none = not_these_too a b x y h.0 h.1.0 in
    let rest = no_neighbours_too a b c (y ∷ o) h.1 in
    let more = rest.0 in
    let sum = beside_sum a b c x (y ∷ o) in
    (ap (λ t. (int_sum ((cost_beside a b c).before x) (y ∷ o) +ℤ cond t c (pos 0)) +ℤ order_cost (cost_beside a b c) (y ∷ o)) none ∙ omega (arith, ints, sum, more), ap (λ t. t || are_neighbours (y ∷ o) a b) none ∙ rest.1)

these_first : (x y a b : LineId) → are_these x y a b ≡ true → (x ≡ a) ⊎ (x ≡ b)
these_first x y a b h = elim (either_true (x.0 == a.0 && y.0 == b.0) (x.0 == b.0 && y.0 == a.0) h) [
  | inl here ↦ inl (same_line x a (left_of (x.0 == a.0) (y.0 == b.0) here))
  | inr there ↦ inr (same_line x b (left_of (x.0 == b.0) (y.0 == a.0) there))
]
  where
    left_of : (s t : Bool) → (s && t) ≡ true → s ≡ true
    left_of true t h = refl
    left_of false t h = absurd (true≢false (sym h))

pub order_cost_beside : (a b : LineId) (c : ℤ) (o : List LineId) → IsDistinct same o → order_cost (cost_beside a b c) o ≡ cond (are_neighbours o a b) c (pos 0)
unfolding IsDistinct
order_cost_beside a b c [] distinct = refl
order_cost_beside a b c (x ∷ []) distinct = omega (arith, ints)
order_cost_beside a b c (x ∷ y ∷ o) distinct = by_these (are_these x y a b) refl (order_cost_beside a b c (y ∷ o) distinct.1)
  where
    by_these : (t : Bool) → are_these x y a b ≡ t → order_cost (cost_beside a b c) (y ∷ o) ≡ cond (are_neighbours (y ∷ o) a b) c (pos 0)
        → (int_sum ((cost_beside a b c).before x) (y ∷ o) +ℤ cond t c (pos 0)) +ℤ order_cost (cost_beside a b c) (y ∷ o) ≡ cond (t || are_neighbours (y ∷ o) a b) c (pos 0)
    by_these false e rest = let sum = beside_sum a b c x (y ∷ o) in omega (arith, ints, sum) ∙ rest
    by_these true e rest =
        let sum = beside_sum a b c x (y ∷ o) in
        let none : order_cost (cost_beside a b c) (y ∷ o) ≡ pos 0 = elim (these_first x y a b e) [
          | inl is ↦ (no_neighbours a b c (y ∷ o) (subst (λ u. AllByRecursion (λ z. same u z ≡ false) (y ∷ o)) is distinct.0)).0
          | inr is ↦ (no_neighbours_too a b c (y ∷ o) (subst (λ u. AllByRecursion (λ z. same u z ≡ false) (y ∷ o)) is distinct.0)).0
        ] in
        omega (arith, ints, sum, none)
