-- What it costs to go on with a line, and what a line costs with those that are left.
use Rattle.std.proofs.Common.{◌≡◌, ℕ, ◌<◌, ◌≤◌, true, false, cond, refl, sym, ◌∙◌, ap, arith, Option, Some, None}
use Rattle.std.specs.Prelude.{ℤ, pos, ◌+ℤ◌, unsigned_abs, IfSome}
use Rattle.std.specs.Option.{option_map}
use Rattle.whole_sums.specs.Sums.{int_sum}
use Rattle.least_orders.specs.Rows.{Rows, AreRows, line_at, entry}
use Rattle.least_orders.specs.Subsets.{has_place, with_place, rest_cost, is_ready, before_left, first_cost}
use Rattle.least_orders.proofs.Bounds.{rest_within, before_left_within}
use Rattle.subset_program.specs.Tables.{tail_cost, IsFirstFree}
use Rattle.subset_program.proofs.Places.{none_free, first_left}
use Rattle.subset_program.proofs.Tails.{abs_sum}

pub first_there : (r : Rows) (set k : ℕ) → has_place set k ≡ false → is_ready r set k ≡ true → tail_cost r (with_place set k) k ≡ first_cost r set k
first_there r set k h g =
    sym (ap (λ b. cond {A = Option ℤ} b None (cond (is_ready r set k) (tail_cost r (with_place set k) k) None)) h
    ∙ ap (λ b. cond b (tail_cost r (with_place set k) k) None) g)

pub rest_small : (r : Rows) → AreRows r → (set : ℕ) (last : Option ℕ) → IfSome (rest_cost r set last) (λ v. unsigned_abs v ≤ 600000000000000000)
rest_small r fits set last = by_cost (rest_cost r set last) refl
  where
    by_cost : (o : Option ℤ) → rest_cost r set last ≡ o → IfSome o (λ v. unsigned_abs v ≤ 600000000000000000)
    by_cost None e = tt
    by_cost (Some v) e = let small = rest_within r fits set last v e in omega (arith, small)

pub tail_small : (r : Rows) → AreRows r → (set last : ℕ) → IfSome (tail_cost r set last) (λ v. unsigned_abs v ≤ 600000000000000000)
tail_small r fits set last = by_rest (rest_cost r set (Some last)) refl
  where
    by_rest : (o : Option ℤ) → rest_cost r set (Some last) ≡ o → IfSome (option_map (λ v. v +ℤ before_left r set last) o) (λ v. unsigned_abs v ≤ 600000000000000000)
    by_rest None e = tt
    by_rest (Some v) e =
        let sum = abs_sum v (before_left r set last) 514000000000000000 32000000000000000 (rest_within r fits set (Some last) v e) (before_left_within r fits set last) in
        omega (arith, sum)

pub left_none : (r : Rows) (set last free : ℕ) → IsFirstFree set r.count free → free ≡ r.count → pos 0 ≡ before_left r set last
left_none r set last free is e = sym (ap (int_sum (entry r.count r.before (line_at last))) (none_free set r.count free is e))

pub left_more : (r : Rows) (set last free : ℕ) → IsFirstFree set r.count free → free < r.count
    → entry r.count r.before (line_at last) (line_at free) +ℤ before_left r (with_place set free) last ≡ before_left r set last
left_more r set last free is below = sym (ap (int_sum (entry r.count r.before (line_at last))) (first_left set r.count free is below))
