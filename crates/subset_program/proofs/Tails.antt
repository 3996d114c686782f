-- What loops over the lines from the last place down to the first have gone over.
use Rattle.std.proofs.Common.{◌≡◌, ℕ, suc, ◌+◌, ◌-◌, ◌<◌, ◌≤◌, Bool, true, false, cond, refl, sym, ◌∙◌, ap, arith, Option, Some, None}
use Rattle.std.specs.Prelude.{ℤ, ◌+ℤ◌, unsigned_abs, IfSome}
use Rattle.std.specs.Option.{option_map}
use Rattle.std.proofs.lemmas.Int.{ints}
use Rattle.least_orders.specs.Rows.{Rows, AreRows}
use Rattle.least_orders.specs.Subsets.{has_place, with_place, rest_cost, is_ready, before_left, first_cost, choice_of, better_choice, choice_from, choice}
use Rattle.least_orders.proofs.Bounds.{rest_within, before_left_within}

-- so many places are still to come, and one more before them
pub one_more : (n j : ℕ) → j < n → n - j ≡ suc (n - (j + 1))
one_more n j h = omega (arith, h)

pub no_more : (n : ℕ) → n - n ≡ 0
no_more n = omega arith

pub all_of : (n : ℕ) → n - 0 ≡ n
all_of n = omega arith

-- Sums.

pub abs_sum : (a b : ℤ) (m n : ℕ) → unsigned_abs a ≤ m → unsigned_abs b ≤ n → unsigned_abs (a +ℤ b) ≤ m + n
abs_sum a b m n p q = omega (arith, ints, p, q)

-- Choices.

pub choice_at_end : (r : Rows) (set : ℕ) (last : Option ℕ) (n : ℕ) → None ≡ choice_from r set last n (n - n)
choice_at_end r set last n = sym (ap (λ m. choice_from r set last n m) (no_more n))

pub choice_more : (r : Rows) (set : ℕ) (last : Option ℕ) (n j p : ℕ) → j ≡ p + 1 → j ≤ n
    → better_choice (choice_of r last p (first_cost r set p)) (choice_from r set last j (n - j)) ≡ choice_from r set last p (n - p)
choice_more r set last n j p e within =
    ap (λ i. better_choice (choice_of r last p (first_cost r set p)) (choice_from r set last i (n - i))) e
    ∙ sym (ap (λ m. choice_from r set last p m) (one_more n p (omega (arith, e, within))))

pub choice_of_all : (r : Rows) (set : ℕ) (last : Option ℕ) (j : ℕ) → j ≡ 0 → choice_from r set last j (r.count - j) ≡ choice r set last
choice_of_all r set last j e = ap (λ i. choice_from r set last i (r.count - i)) e ∙ ap (λ m. choice_from r set last 0 m) (all_of r.count)

-- How great they may be.

some_same : (a b : ℤ) → Some a ≡ Some b → a ≡ b
some_same a b e = cc

none_some : (a : ℤ) → None ≡ Some a → ⊥
none_some a e = cc

pub first_small : (r : Rows) → AreRows r → (set k : ℕ) (v : ℤ) → first_cost r set k ≡ Some v → unsigned_abs v ≤ 600000000000000000
first_small r fits set k v e = by_place (has_place set k) (is_ready r set k) e
  where
    by_rest : (o : Option ℤ) → rest_cost r (with_place set k) (Some k) ≡ o → option_map (λ w. w +ℤ before_left r (with_place set k) k) o ≡ Some v → unsigned_abs v ≤ 600000000000000000
    by_rest None is h = absurd (none_some v h)
    by_rest (Some w) is h =
        let rest = rest_within r fits (with_place set k) (Some k) w is in
        let more = before_left_within r fits (with_place set k) k in
        let same = some_same (w +ℤ before_left r (with_place set k) k) v h in
        small w (before_left r (with_place set k) k) v rest more same
      where
        small : (a b c : ℤ) → unsigned_abs a ≤ 514000000000000000 → unsigned_abs b ≤ 32000000000000000 → a +ℤ b ≡ c → unsigned_abs c ≤ 600000000000000000
        small a b c h k e = grind (arith, ints)

    by_place : (s t : Bool) → cond s None (cond t (option_map (λ w. w +ℤ before_left r (with_place set k) k) (rest_cost r (with_place set k) (Some k))) None) ≡ Some v → unsigned_abs v ≤ 600000000000000000
    by_place true t h = absurd (none_some v h)
    by_place false false h = absurd (none_some v h)
    by_place false true h = by_rest (rest_cost r (with_place set k) (Some k)) refl h

pub first_small_if : (r : Rows) → AreRows r → (set k : ℕ) → IfSome (first_cost r set k) (λ v. unsigned_abs v ≤ 600000000000000000)
first_small_if r fits set k = by_cost (first_cost r set k) refl
  where
    by_cost : (o : Option ℤ) → first_cost r set k ≡ o → IfSome o (λ v. unsigned_abs v ≤ 600000000000000000)
    by_cost None e = tt
    by_cost (Some v) e = first_small r fits set k v e
