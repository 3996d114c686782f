-- How far apart the parts of a piece are.
use Rattle.std.proofs.Common.{◌≡◌, refl, ◌∙◌, ap, subst, ℕ, zero, suc, ◌+◌, ◌*◌, ◌<◌, ◌≤◌, ◌⊎◌, inl, inr, true, false, ℤ, pos, ◌+ℤ◌, ◌-ℤ◌, ◌*ℤ◌, ◌≤ℤ◌, ◌<ℤ◌, unsigned_abs, arith}
use Rattle.std.proofs.Math.Nat.{mul-le-mul, mul-le-mul_left, mul-le-mul_right, le_of_mul-le-mul_left, le_trans, le_refl, le-mul_of_pos_right}
use Rattle.std.proofs.lemmas.Bool.{cases_lt, leb-true}
use Rattle.std.proofs.lemmas.Int.{ints, unsigned_abs-mul}
use Rattle.whole_algebra.specs.Rounding.{floor_quotient}
use Rattle.whole_algebra.proofs.Products.{*ℤ-+ℤ, minus-*ℤ}
use Rattle.whole_algebra.proofs.Rounding.{floor_quotient-lower, floor_quotient-upper}
use Rattle.shape_track.specs.Samples.{reaches, first_that_reaches, parts_of}

-- ---- the parts reach

reaches_within : (near d n more : ℕ) → 4 * d ≤ (n + more) * (n + more) * (near * near) →
    4 * d ≤ first_that_reaches near d n more * first_that_reaches near d n more * (near * near)
reaches_within near d n zero far = let same : n + 0 ≡ n = omega arith in subst (λ (m : ℕ). 4 * d ≤ m * m * (near * near)) same far
reaches_within near d n (suc more) far =
    (elim (reaches near d n) as (λ b. reaches near d n ≡ b →
    4 * d ≤ elim b [ true ↦ n | false ↦ first_that_reaches near d (n + 1) more ] * elim b [ true ↦ n | false ↦ first_that_reaches near d (n + 1) more ] * (near * near)) [
      | true ↦ λ e. leb-true (4 * d) (n * n * (near * near)) e
      | false ↦ λ e. reaches_within near d (n + 1) more (let same : n + suc more ≡ n + 1 + more = omega arith in subst (λ (m : ℕ). 4 * d ≤ m * m * (near * near)) same far)
    ]) refl

at_least : (near d n more : ℕ) → n ≤ first_that_reaches near d n more
at_least near d n zero = le_refl n
at_least near d n (suc more) =
    elim (reaches near d n) as (λ b. n ≤ elim b [ true ↦ n | false ↦ first_that_reaches near d (n + 1) more ]) [
      | true ↦ le_refl n
      | false ↦ let next : n + 1 ≤ first_that_reaches near d (n + 1) more = at_least near d (n + 1) more in omega arith
    ]

pub parts_of-some : (near d : ℕ) → 1 ≤ parts_of near d
parts_of-some near d = at_least near d 1 (2 * d)

pub parts_of-reaches : (near d : ℕ) → 0 < near → 4 * d ≤ parts_of near d * parts_of near d * (near * near)
parts_of-reaches near d some = reaches_within near d 1 (2 * d) (le_trans (square d) (le-mul_of_pos_right ((1 + 2 * d) * (1 + 2 * d)) (mul-le-mul some some)))
  where
    square : (d : ℕ) → 4 * d ≤ (1 + 2 * d) * (1 + 2 * d)
    square d = omega arith

-- ---- one step along one axis

next_product : (z : ℤ) (i : ℕ) → z *ℤ pos (i + 1) ≡ z *ℤ pos i +ℤ z
next_product z i = *ℤ-+ℤ z (pos i) (pos 1) ∙ ap (λ s. z *ℤ pos i +ℤ s) (once z)
  where
    once : (z : ℤ) → z *ℤ pos 1 ≡ z
    once z = omega (arith, ints)

-- one step is at most a part of the whole, rounded upwards
pub step_within : (z : ℤ) (n i : ℕ) → 0 < n → n * unsigned_abs (floor_quotient (z *ℤ pos (i + 1)) n -ℤ floor_quotient (z *ℤ pos i) n) ≤ unsigned_abs z + n
step_within z n i some =
    let u = floor_quotient (z *ℤ pos i) n in
    let v = floor_quotient (z *ℤ pos (i + 1)) n in
    let size : unsigned_abs ((v -ℤ u) *ℤ pos n) ≡ unsigned_abs (v -ℤ u) * n = unsigned_abs-mul (v -ℤ u) (pos n) in
    let bound : unsigned_abs ((v -ℤ u) *ℤ pos n) ≤ unsigned_abs z + n =
    between ((v -ℤ u) *ℤ pos n) (v *ℤ pos n) (u *ℤ pos n) (z *ℤ pos i) (z *ℤ pos (i + 1)) z n (minus-*ℤ v u (pos n)) (next_product z i)
    (floor_quotient-lower (z *ℤ pos i) n some) (floor_quotient-upper (z *ℤ pos i) n some) (floor_quotient-lower (z *ℤ pos (i + 1)) n some) (floor_quotient-upper (z *ℤ pos (i + 1)) n some) in
    turned n (unsigned_abs (v -ℤ u)) (unsigned_abs ((v -ℤ u) *ℤ pos n)) (unsigned_abs z + n) size bound
  where
    between : (w v u a b z : ℤ) (n : ℕ) → w ≡ v -ℤ u → b ≡ a +ℤ z → u ≤ℤ a → a <ℤ (u +ℤ pos n) → v ≤ℤ b → b <ℤ (v +ℤ pos n) → unsigned_abs w ≤ unsigned_abs z + n
    between w v u a b z n e f h k l m = omega (arith, ints)

    turned : (n s p q : ℕ) → p ≡ s * n → p ≤ q → n * s ≤ q
    turned n s p q e h = omega arith

-- ---- one step in the plane

root_le : (a b : ℕ) → a * a ≤ b * b → a ≤ b
root_le a b h = by_order (cases_lt b a)
  where
    by_order : (b < a) ⊎ (a ≤ b) → a ≤ b
    by_order (inr k) = k
    by_order (inl k) = let more : (b + 1) * (b + 1) ≤ a * a = mul-le-mul (omega arith) (omega arith) in absurd (clash b (a * a) more h)
      where
        clash : (b p : ℕ) → (b + 1) * (b + 1) ≤ p → p ≤ b * b → ⊥
        clash b p more h = omega arith

-- two steps that are at most a part of the whole, rounded upwards, come to at most `near`
pub steps_near : (near n x y s t : ℕ) → 20 ≤ near → 0 < n → 4 * (x * x + y * y) ≤ n * n * (near * near) → n * s ≤ x + n → n * t ≤ y + n → s * s + t * t ≤ near * near
steps_near near n x y s t low some far across along =
    let p : n * s * (n * s) ≤ (x + n) * (x + n) = mul-le-mul across across in
    let q : n * t * (n * t) ≤ (y + n) * (y + n) = mul-le-mul along along in
    let half_x : 2 * x ≤ n * near = root_le (2 * x) (n * near) (omega (arith, far)) in
    let half_y : 2 * y ≤ n * near = root_le (2 * y) (n * near) (omega (arith, far)) in
    let nx : n * (2 * x) ≤ n * (n * near) = mul-le-mul_left n half_x in
    let ny : n * (2 * y) ≤ n * (n * near) = mul-le-mul_left n half_y in
    let room : n * n * (8 * near + 8) ≤ n * n * (3 * (near * near)) = mul-le-mul_left (n * n) (roomy near low) in
    let whole : n * n * (4 * (s * s + t * t)) ≤ n * n * (4 * (near * near)) = omega (arith, p, q, far, nx, ny, room) in
    quarter (s * s + t * t) (near * near) (le_of_mul-le-mul_left {m = 4 * (s * s + t * t)} {n = 4 * (near * near)} {k = n * n} whole (mul-le-mul some some))
  where
    roomy : (near : ℕ) → 20 ≤ near → 8 * near + 8 ≤ 3 * (near * near)
    roomy near low = let product : 20 * near ≤ near * near = mul-le-mul_right near low in omega arith

    quarter : (a b : ℕ) → 4 * a ≤ 4 * b → a ≤ b
    quarter a b h = omega arith
