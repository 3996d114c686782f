-- The root of a number is the greatest whole number whose square is not above it.
use Rattle.std.proofs.Common.{◌≡◌, refl, sym, ℕ, zero, suc, ◌+◌, ◌*◌, ◌/◌, ◌<◌, ◌≤◌, ◌⊎◌, inl, inr, Bool, true, false, pos, [], ◌∷◌, arith}
use Rattle.std.specs.Prelude.{nat_le, if◌then◌else◌}
use Rattle.std.proofs.lemmas.Bool.{cases_lt, leb-true, leb-false}
use Rattle.std.proofs.lemmas.Nat.{mul-le}
use Rattle.geo_lines.specs.Roots.{IsRoot, with_digit, root_within, root}

-- a number whose square is not above n is no greater than its root
pub below_root : (n root d : ℕ) → IsRoot n root → d * d ≤ n → d ≤ root
below_root n root d is low = elim (cases_lt root d) [ inl more ↦ absurd (above more) | inr within ↦ within ]
  where
    above : root < d → ⊥
    above more = let greater = mul-le (root + 1) (root + 1) d d (omega arith) (omega arith) in omega (arith, greater, low, is.next_square_gt)

-- there is one root
pub one_root : (n a b : ℕ) → IsRoot n a → IsRoot n b → a ≡ b
one_root n a b p q =
    let one = below_root n b a q p.square_le in
    let other = below_root n a b p q.square_le in
    omega (arith, one, other)

square_doubled : (r : ℕ) → (2 * r) * (2 * r) ≡ 4 * (r * r)
square_doubled r = grind arith

square_next : (r : ℕ) → (2 * r + 1 + 1) * (2 * r + 1 + 1) ≡ 4 * ((r + 1) * (r + 1))
square_next r = grind arith

digit_is : (n m r : ℕ) → n / 4 ≡ m → IsRoot m r → IsRoot n (with_digit n (2 * r))
digit_is n m r quarter is =
    elim (nat_le ((2 * r + 1) * (2 * r + 1)) n) as (λ b. nat_le ((2 * r + 1) * (2 * r + 1)) n ≡ b → IsRoot n (if b then 2 * r + 1 else 2 * r)) [
      | true ↦ λ e. record { square_le = leb-true ((2 * r + 1) * (2 * r + 1)) n e; next_square_gt = high }
      | false ↦ λ e. record { square_le = low; next_square_gt = leb-false ((2 * r + 1) * (2 * r + 1)) n e }
    ] refl
  where
    low : (2 * r) * (2 * r) ≤ n
    low = omega (arith, square_doubled r, quarter, is.square_le)

    high : n < (2 * r + 1 + 1) * (2 * r + 1 + 1)
    high = omega (arith, square_next r, quarter, is.next_square_gt)

root_within-is : (digits n : ℕ) → n ≤ digits → IsRoot n (root_within digits n)
root_within-is zero zero h = record { square_le = omega arith; next_square_gt = omega arith }
root_within-is (suc digits) zero h = record { square_le = omega arith; next_square_gt = omega arith }
root_within-is zero (suc n) h = absurd (omega arith)
root_within-is (suc digits) (suc n) h =
    digit_is (suc n) (suc n / 4) (root_within digits (suc n / 4)) refl (root_within-is digits (suc n / 4) (omega arith))

pub root-is : (n : ℕ) → IsRoot n (root n)
root-is n = root_within-is n n (omega arith)
