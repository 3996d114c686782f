-- Square roots, rounded downwards.
use Rattle.std.specs.Prelude.{ℕ, zero, suc, ◌+◌, ◌*◌, ◌/◌, ◌<◌, ◌≤◌, nat_le, if◌then◌else◌}

-- the greatest number whose square is not above n
pub record IsRoot (n root : ℕ) : Type 0 where
  pub square_le : root * root ≤ n
  pub next_square_gt : n < (root + 1) * (root + 1)

-- one binary digit more: the greater of two numbers, where its square is not above n
abbrev pub with_digit : ℕ → ℕ → ℕ
with_digit n root = if nat_le ((root + 1) * (root + 1)) n then root + 1 else root

-- The root digit by digit: that of a quarter of the number, doubled, and one digit more. It has no more digits than
-- allowed.
abbrev pub root_within : ℕ → ℕ → ℕ
root_within digits zero = 0
root_within zero (suc n) = 0
root_within (suc digits) (suc n) = with_digit (suc n) (2 * root_within digits (suc n / 4))

-- the square root of n, rounded downwards
abbrev pub root : ℕ → ℕ
root n = root_within n n
