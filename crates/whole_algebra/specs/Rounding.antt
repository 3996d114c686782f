-- Division of whole numbers, rounded downwards.
use Rattle.std.specs.Prelude.{ℕ, ℤ, pos}
use Rattle.std.specs.Int.{int_div_euclid}

-- the quotient by a number above 0, rounded downwards, also below zero
abbrev pub floor_quotient : ℤ → ℕ → ℤ
floor_quotient z n = int_div_euclid z (pos n)
