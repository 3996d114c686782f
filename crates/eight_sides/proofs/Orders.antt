-- Orders of whole numbers, by their tests, by a scale and by squares.
use Rattle.std.proofs.Common.{◌≡◌, ℕ, ◌<◌, Bool, true, false, ℤ, pos, ◌+ℤ◌, ◌-ℤ◌, ◌*ℤ◌, ◌≤ℤ◌, ◌<ℤ◌, refl, arith}
use Rattle.std.specs.Prelude.{int_le}
use Rattle.std.specs.Int.{int_min, int_max}
use Rattle.std.proofs.lemmas.Int.{ints, clamps}
use Rattle.whole_algebra.proofs.Products.{*ℤ-minus, minus-*ℤ, *ℤ-+ℤ}
use Rattle.whole_algebra.proofs.Signs.{*ℤ-positive}

pub le_true : (a b : ℤ) → a ≤ℤ b → int_le a b ≡ true
le_true a b h = grind (arith, ints)

pub le_from : (a b : ℤ) → int_le a b ≡ true → a ≤ℤ b
le_from a b e = grind (arith, ints)

pub gt_from : (a b : ℤ) → int_le a b ≡ false → b <ℤ a
gt_from a b e = grind (arith, ints)

pub max_le_min : (a b c d : ℤ) → a ≤ℤ c → a ≤ℤ d → b ≤ℤ c → b ≤ℤ d → int_max a b ≤ℤ int_min c d
max_le_min a b c d p q r s = omega (arith, ints, clamps)

-- numbers that are in order at a scale are in order
pub le_by_scale : (s : ℕ) (a b : ℤ) → 0 < s → (pos s *ℤ a) ≤ℤ (pos s *ℤ b) → a ≤ℤ b
le_by_scale s a b some h = by_test (int_le a b) refl
  where
    by_test : (t : Bool) → int_le a b ≡ t → a ≤ℤ b
    by_test true e = le_from a b e
    by_test false e =
        let above : b <ℤ a = gt_from a b e in
        let apart : pos 0 <ℤ (pos s *ℤ (a -ℤ b)) = *ℤ-positive (pos s) (a -ℤ b) (omega (arith, ints)) (omega (arith, ints)) in
        let is : pos s *ℤ (a -ℤ b) ≡ pos s *ℤ a -ℤ pos s *ℤ b = *ℤ-minus (pos s) a b in
        absurd (omega (arith, ints))

-- a number whose square is not above that of another, which is not negative, is not above it
pub le_by_squares : (a b : ℤ) → pos 0 ≤ℤ b → (a *ℤ a) ≤ℤ (b *ℤ b) → a ≤ℤ b
le_by_squares a b some h = by_test (int_le a b) refl
  where
    by_test : (t : Bool) → int_le a b ≡ t → a ≤ℤ b
    by_test true e = le_from a b e
    by_test false e =
        let above : b <ℤ a = gt_from a b e in
        let apart : pos 0 <ℤ ((a -ℤ b) *ℤ (a +ℤ b)) = *ℤ-positive (a -ℤ b) (a +ℤ b) (omega (arith, ints)) (omega (arith, ints)) in
        let outer : (a -ℤ b) *ℤ (a +ℤ b) ≡ (a -ℤ b) *ℤ a +ℤ (a -ℤ b) *ℤ b = *ℤ-+ℤ (a -ℤ b) a b in
        let first : (a -ℤ b) *ℤ a ≡ a *ℤ a -ℤ b *ℤ a = minus-*ℤ a b a in
        let second : (a -ℤ b) *ℤ b ≡ a *ℤ b -ℤ b *ℤ b = minus-*ℤ a b b in
        absurd (omega (arith, ints))
