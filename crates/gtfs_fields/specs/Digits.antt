-- Decimal digits and the numbers that they write.
use Rattle.std.specs.Prelude.{ℕ, ◌+◌, ◌*◌, List, [], ◌∷◌, Bool, false, ◌&&◌, Option, Some, None, if◌then◌else◌, nat_le}
use Rattle.std.specs.Char.{is_ascii_digit, digit_value}
use Rattle.std.specs.Str.{all_ascii_digits}
use Rattle.std.specs.Str.Parse.{digits_value_after}

-- one or more decimal digits, and nothing else
abbrev pub are_digits : List ℕ → Bool
are_digits [] = false
are_digits (byte ∷ rest) = is_ascii_digit byte && all_ascii_digits rest

-- a number, where it is at most `most`
abbrev pub up_to : ℕ → ℕ → Option ℕ
up_to most number = if nat_le number most then Some number else None

-- the number that one more digit makes, where it is a digit and the number at most `most`
abbrev pub with_digit : ℕ → ℕ → ℕ → Option ℕ
with_digit most number byte = if is_ascii_digit byte then up_to most (number * 10 + digit_value byte) else None

-- the number that all bytes of a text make behind another, where they are digits and the number at most `most`
abbrev pub with_digits : ℕ → ℕ → List ℕ → Option ℕ
with_digits most number text = if all_ascii_digits text then up_to most (digits_value_after 10 number text) else None
