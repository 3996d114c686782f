-- Quotients that are rounded downwards.
use Rattle.std.proofs.Common.{◌≡◌, ℕ, ◌+◌, ◌*◌, ◌/◌, ◌<◌, ◌≤◌, ℤ, pos, negsuc, ◌+ℤ◌, ◌*ℤ◌, ◌≤ℤ◌, ◌<ℤ◌, neg_ℤ, unsigned_abs, suc, arith}
use Rattle.std.proofs.Math.Nat.{div-le_of_le-mul, div-lt_iff_lt-mul, div-mul-le_self, lt-div-mul-add}
use Rattle.std.proofs.Math.IntN.{negsuc-*ℤ-pos}
use Rattle.std.proofs.lemmas.Int.{ints}
use Rattle.whole_algebra.specs.Rounding.{floor_quotient}

-- a quotient that is rounded downwards is at most m in size where the number is at most m times the divisor
pub floor_quotient-within : (z : ℤ) (n m : ℕ) → 0 < n → unsigned_abs z ≤ m * n → unsigned_abs (floor_quotient z n) ≤ m
floor_quotient-within (pos a) n m some within = div-le_of_le-mul n (omega arith)
floor_quotient-within (negsuc a) n m some within =
    let below : a / n < m = (div-lt_iff_lt-mul {k = n} {x = a} {y = m} some).1 (omega arith) in omega arith

-- a quotient that is rounded downwards is the greatest number whose product with the divisor is not above
pub floor_quotient-lower : (z : ℤ) (n : ℕ) → 0 < n → (floor_quotient z n *ℤ pos n) ≤ℤ z
floor_quotient-lower (pos a) n some =
    let under : a / n * n ≤ a = div-mul-le_self a n in omega (arith, ints)
floor_quotient-lower (negsuc a) n some =
    let above : a < a / n * n + n = lt-div-mul-add some in
    let is : negsuc (a / n) *ℤ pos n ≡ neg_ℤ (pos (suc (a / n) * n)) = negsuc-*ℤ-pos (a / n) n in
    below (negsuc (a / n) *ℤ pos n) (suc (a / n) * n) a is (omega arith)
  where
    below : (x : ℤ) (m a : ℕ) → x ≡ neg_ℤ (pos m) → a < m → x ≤ℤ negsuc a
    below x m a e h = omega (arith, ints)

pub floor_quotient-upper : (z : ℤ) (n : ℕ) → 0 < n → z <ℤ (floor_quotient z n *ℤ pos n +ℤ pos n)
floor_quotient-upper (pos a) n some =
    let above : a < a / n * n + n = lt-div-mul-add some in omega (arith, ints)
floor_quotient-upper (negsuc a) n some =
    let under : a / n * n ≤ a = div-mul-le_self a n in
    let is : negsuc (a / n) *ℤ pos n ≡ neg_ℤ (pos (suc (a / n) * n)) = negsuc-*ℤ-pos (a / n) n in
    above (negsuc (a / n) *ℤ pos n) (suc (a / n) * n) a n is (omega arith)
  where
    above : (x : ℤ) (m a n : ℕ) → x ≡ neg_ℤ (pos m) → m ≤ a + n → negsuc a <ℤ (x +ℤ pos n)
    above x m a n e h = omega (arith, ints)
