-- Whole numbers as they stand in a text: decimal, without leading zeros, `-` before a negative one.
use Rattle.std.specs.Prelude.{ℕ, zero, suc, ◌+◌, ◌*◌, ℤ, pos, negsuc, ◌^◌, Bool, false, ◌&&◌, not, ◌==◌, List, [], ◌∷◌, Option, Some, None, option_map, if◌then◌else◌, nat_le}
use Rattle.std.specs.Char.{is_ascii_digit, digit_value}
use Rattle.std.specs.Str.{all_ascii_digits}
use Rattle.std.specs.Option.{option_and_then}
use Rattle.std.specs.Str.Parse.{digits_value_after}

-- a number, where it is at most `most`
abbrev pub up_to : ℕ → ℕ → Option ℕ
up_to most number = if nat_le number most then Some number else None

-- one or more decimal digits, the first of them 0 only where it is the only one
abbrev pub is_numeral : List ℕ → Bool
is_numeral [] = false
is_numeral (byte ∷ []) = is_ascii_digit byte
is_numeral (byte ∷ next ∷ rest) = not (byte == 48) && all_ascii_digits (byte ∷ next ∷ rest)

-- the greatest number that stands in a text, either way
abbrev pub most_number : ℕ
most_number = 10 ^ 15

-- the number that a numeral writes, up to the greatest
abbrev pub natural_of : List ℕ → Option ℕ
natural_of text = if is_numeral text then up_to most_number (digits_value_after 10 0 text) else None

-- a number above 0, negated; there is no other spelling of 0 than `0`
abbrev pub negated : ℕ → Option ℤ
negated zero = None
negated (suc n) = Some (negsuc n)

-- the number that a word writes, from minus to plus the greatest
abbrev pub number_of : List ℕ → Option ℤ
number_of [] = None
number_of (byte ∷ rest) = if byte == 45 then option_and_then negated (natural_of rest) else option_map pos (natural_of (byte ∷ rest))

-- a number before others, where both are there
abbrev pub in_front : Option ℤ → Option (List ℤ) → Option (List ℤ)
in_front None rest = None
in_front (Some z) None = None
in_front (Some z) (Some rest) = Some (z ∷ rest)

-- the numbers that words write, where each writes one
abbrev pub numbers_of : List (List ℕ) → Option (List ℤ)
numbers_of [] = Some []
numbers_of (word ∷ rest) = in_front (number_of word) (numbers_of rest)

-- the number that one more digit makes, where it is a digit and the number at most `most`
abbrev pub with_digit : ℕ → ℕ → ℕ → Option ℕ
with_digit most number byte = if is_ascii_digit byte then up_to most (number * 10 + digit_value byte) else None

-- the number that all bytes of a text make behind another, where they are digits and the number at most `most`
abbrev pub with_digits : ℕ → ℕ → List ℕ → Option ℕ
with_digits most number text = if all_ascii_digits text then up_to most (digits_value_after 10 number text) else None

-- a number that is not negative and at most `most`
abbrev pub natural_within : ℕ → ℤ → Option ℕ
natural_within most (pos n) = up_to most n
natural_within most (negsuc n) = None

-- a number of at least `least` and at most `most`
abbrev pub from_to : ℕ → ℕ → ℤ → Option ℕ
from_to least most (pos n) = if nat_le least n then up_to most n else None
from_to least most (negsuc n) = None
