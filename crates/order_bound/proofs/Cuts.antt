-- The cut: for both answers of a parent, a child has an answer that is least for its costs with its share of the Link's
-- price, and for which the price pays exactly for the Link.
use Rattle.std.proofs.Common.{◌≡◌, ℕ, Bool, true, false, not, cond, arith}
use Rattle.std.specs.Prelude.{ℤ, pos, ◌+ℤ◌, ◌-ℤ◌}
use Rattle.std.specs.Int.{int_min}
use Rattle.std.proofs.lemmas.Int.{ints, clamps, by_lt_z}
use lib.Signed.{◌<ℤ◌, ◌≤ℤ◌}
use Rattle.order_model.specs.Costs.{same_answer}
use Rattle.order_bound.specs.Values.{where_one}
use Rattle.order_bound.specs.CanonicalPrices.{cut_to}

-- the weight, where the Link costs
abbrev pub weight_if : Bool → ℕ → ℕ
weight_if costs w = cond costs w 0

-- the child is the first segment of the Link, whose cost with its share is b x - y x
pub cut_first : (zero one : ℤ) (w : ℕ) (z : Bool) (y : ℤ) → y ≡ cut_to w (one -ℤ zero)
    → (x : Bool) × (cond x (one +ℤ (pos 0 -ℤ y)) zero ≡ int_min zero (one +ℤ (pos 0 -ℤ y)))
    × (where_one x (pos 0 -ℤ y) +ℤ where_one z y ≡ pos (weight_if (same_answer (not x) z) w))
cut_first zero one w true y h =
    by_lt_z (pos w) (one -ℤ zero)
    (λ (p : pos w <ℤ (one -ℤ zero)). (false, omega (arith, ints, clamps), omega (arith, ints, clamps)))
    (λ (p : (one -ℤ zero) ≤ℤ pos w). by_lt_z (one -ℤ zero) (pos 0 -ℤ pos w)
    (λ (q : (one -ℤ zero) <ℤ (pos 0 -ℤ pos w)). (true, omega (arith, ints, clamps), omega (arith, ints, clamps)))
    (λ (q : (pos 0 -ℤ pos w) ≤ℤ (one -ℤ zero)). (true, omega (arith, ints, clamps), omega (arith, ints, clamps))))
cut_first zero one w false y h =
    by_lt_z (pos w) (one -ℤ zero)
    (λ (p : pos w <ℤ (one -ℤ zero)). (false, omega (arith, ints, clamps), omega (arith, ints, clamps)))
    (λ (p : (one -ℤ zero) ≤ℤ pos w). by_lt_z (one -ℤ zero) (pos 0 -ℤ pos w)
    (λ (q : (one -ℤ zero) <ℤ (pos 0 -ℤ pos w)). (true, omega (arith, ints, clamps), omega (arith, ints, clamps)))
    (λ (q : (pos 0 -ℤ pos w) ≤ℤ (one -ℤ zero)). (false, omega (arith, ints, clamps), omega (arith, ints, clamps))))

negated : (y : ℤ) → pos 0 -ℤ (pos 0 -ℤ y) ≡ y
negated y = omega (arith, ints)

-- the child is the other segment of the Link, told by z
pub cut_other : (zero one : ℤ) (w : ℕ) (x : Bool) (y : ℤ) → y ≡ pos 0 -ℤ cut_to w (one -ℤ zero)
    → (z : Bool) × (cond z (one +ℤ y) zero ≡ int_min zero (one +ℤ y))
    × (where_one x (pos 0 -ℤ y) +ℤ where_one z y ≡ pos (weight_if (same_answer (not x) z) w))
cut_other zero one w true y h =
    by_lt_z (pos w) (one -ℤ zero)
    (λ (p : pos w <ℤ (one -ℤ zero)). (false, omega (arith, ints, clamps), omega (arith, ints, clamps)))
    (λ (p : (one -ℤ zero) ≤ℤ pos w). by_lt_z (one -ℤ zero) (pos 0 -ℤ pos w)
    (λ (q : (one -ℤ zero) <ℤ (pos 0 -ℤ pos w)). (true, omega (arith, ints, clamps), omega (arith, ints, clamps)))
    (λ (q : (pos 0 -ℤ pos w) ≤ℤ (one -ℤ zero)). (true, omega (arith, ints, clamps), omega (arith, ints, clamps))))
cut_other zero one w false y h =
    by_lt_z (pos w) (one -ℤ zero)
    (λ (p : pos w <ℤ (one -ℤ zero)). (false, omega (arith, ints, clamps), omega (arith, ints, clamps)))
    (λ (p : (one -ℤ zero) ≤ℤ pos w). by_lt_z (one -ℤ zero) (pos 0 -ℤ pos w)
    (λ (q : (one -ℤ zero) <ℤ (pos 0 -ℤ pos w)). (true, omega (arith, ints, clamps), omega (arith, ints, clamps)))
    (λ (q : (pos 0 -ℤ pos w) ≤ℤ (one -ℤ zero)). (false, omega (arith, ints, clamps), omega (arith, ints, clamps))))
