-- Intervals and shapes as they are computed.
use Rattle.std.proofs.Common.{◌≡◌, ◌≤◌, ℕ, ℤ, pos, w64, to_z, of_z, ◌+ℤ◌, ◌-ℤ◌, ◌*ℤ◌, ◌≤ℤ◌, ap, ◌∙◌, arith}
use Rattle.std.specs.Prelude.{unsigned_abs}
use Rattle.std.proofs.Math.IntN.{*ℤ_comm}
use Rattle.std.proofs.lemmas.Int.{ints}
use Rattle.whole_algebra.specs.Rounding.{floor_quotient}
use Rattle.whole_algebra.proofs.Rounding.{floor_quotient-lower, floor_quotient-upper}
use Rattle.eight_sides.specs.declared.interval.Interval.{Interval}
use Rattle.eight_sides.specs.declared.shape.Shape.{Shape}
use Rattle.eight_sides.specs.Shapes.{around, between, half_below}

pub same_interval : (a b c d : ℤ) → a ≡ c → b ≡ d → (let i : Interval = record { least = a; greatest = b } in i) ≡ record { least = c; greatest = d }
same_interval a b c d e f = ap (λ (z : ℤ). let i : Interval = record { least = z; greatest = b } in i) e ∙ ap (λ (z : ℤ). let i : Interval = record { least = c; greatest = z } in i) f

pub same_shape : (a b c d e f g h : Interval) → a ≡ e → b ≡ f → c ≡ g → d ≡ h
    → (let s : Shape = record { across = a; down = b; difference = c; sum = d } in s) ≡ record { across = e; down = f; difference = g; sum = h }
same_shape a b c d e f g h p q r t =
    ap (λ (i : Interval). let s : Shape = record { across = i; down = b; difference = c; sum = d } in s) p
    ∙ ap (λ (i : Interval). let s : Shape = record { across = e; down = i; difference = c; sum = d } in s) q
    ∙ ap (λ (i : Interval). let s : Shape = record { across = e; down = f; difference = i; sum = d } in s) r
    ∙ ap (λ (i : Interval). let s : Shape = record { across = e; down = f; difference = g; sum = i } in s) t

pub around_same : (x y : ℤ) (m n : ℕ) → x ≡ y → m ≡ n → around x m ≡ around y n
around_same x y m n e f = ap (λ (z : ℤ). around z m) e ∙ ap (around y) f

pub between_same : (a b x y : ℤ) (m n : ℕ) → a ≡ x → b ≡ y → m ≡ n → between a b m ≡ between x y n
between_same a b x y m n e f g = ap (λ (z : ℤ). between z b m) e ∙ ap (λ (z : ℤ). between x z m) f ∙ ap (between x y) g

-- half of a number, rounded down, is no more than half, and less than half a unit below it
pub half_parts : (z r : ℤ) → r ≡ half_below z → ((pos 2 *ℤ r) ≤ℤ z) × (z ≤ℤ (pos 2 *ℤ r +ℤ pos 1))
half_parts z r e =
    let low = floor_quotient-lower z 2 (omega arith) in
    let high = floor_quotient-upper z 2 (omega arith) in
    let swapped : floor_quotient z 2 *ℤ pos 2 ≡ pos 2 *ℤ floor_quotient z 2 = *ℤ_comm (floor_quotient z 2) (pos 2) in
    let same : pos 2 *ℤ r ≡ pos 2 *ℤ floor_quotient z 2 = ap (λ (v : ℤ). pos 2 *ℤ v) e in
    (omega (arith, ints, low, swapped, same), omega (arith, ints, high, swapped, same))

-- sums and differences of numbers that can be reckoned with, as they are computed
pub sum_kept : (a b : ℤ) → unsigned_abs a ≤ 1099511627776 → unsigned_abs b ≤ 1099511627776 → to_z w64 (of_z w64 (to_z w64 (of_z w64 a) +ℤ to_z w64 (of_z w64 b))) ≡ a +ℤ b
sum_kept a b p q = omega (arith, ints, p, q)

pub difference_kept : (a b : ℤ) → unsigned_abs a ≤ 1099511627776 → unsigned_abs b ≤ 1099511627776 → to_z w64 (of_z w64 (to_z w64 (of_z w64 a) -ℤ to_z w64 (of_z w64 b))) ≡ a -ℤ b
difference_kept a b p q = omega (arith, ints, p, q)
