-- Degree texts: a sign, digits with a point, an exponent of ten. They are read as whole microdegrees.
use Rattle.std.specs.Prelude.{ℕ, ◌+◌, ◌*◌, ◌/◌, ◌^◌, ℤ, pos, neg_ℤ, List, [], ◌∷◌, ◌++◌, length, Bool, ◌==◌, ◌&&◌, ◌||◌, Option, Some, None, option_map, if◌then◌else◌, nat_le, slice_index}
use Rattle.std.specs.List.{list_any, before_first, after_first}
use Rattle.std.specs.Str.Parse.{digits_value}
use Rattle.gtfs_fields.specs.Spaces.{trimmed}
use Rattle.gtfs_fields.specs.Digits.{are_digits, up_to}

-- whether a text begins with '-'
abbrev pub is_negative : List ℕ → Bool
is_negative text = slice_index text 0 == 45

-- the text without a '-' or a '+' at its front
abbrev pub without_sign : List ℕ → List ℕ
without_sign [] = []
without_sign (byte ∷ rest) = if (byte == 45) || (byte == 43) then rest else byte ∷ rest

abbrev pub is_point : ℕ → Bool
is_point byte = byte == 46

-- 'e' or 'E'
abbrev pub is_exponent_mark : ℕ → Bool
is_exponent_mark byte = (byte == 101) || (byte == 69)

-- How many tens an exponent multiplies by, and how many it divides by: a sign, where there is one, and one or
-- two digits.
abbrev pub exponent_value : List ℕ → Option (ℕ × ℕ)
exponent_value text =
    if are_digits (without_sign text) && nat_le (length (without_sign text)) 2
    then Some (if is_negative text then (0, digits_value 10 (without_sign text)) else (digits_value 10 (without_sign text), 0))
    else None

-- the tens of a text: of what follows its first 'e' or 'E', where it has one
abbrev pub tens_of : List ℕ → Option (ℕ × ℕ)
tens_of text = if list_any is_exponent_mark text then exponent_value (after_first is_exponent_mark text) else Some (0, 0)

-- The microdegrees of digits before a point and behind it, times some tens, a part of one cut off: all digits
-- as one number, with as many decimals as stand behind the point, times a million.
abbrev pub microdegrees_of : List ℕ → List ℕ → ℕ × ℕ → ℕ
microdegrees_of units decimals tens = digits_value 10 (units ++ decimals) * 10 ^ (6 + tens.0) / 10 ^ (length decimals + tens.1)

-- how many microdegrees a text may spell, either way
abbrev pub most_microdegrees : ℕ
most_microdegrees = 10 ^ 12

-- the microdegrees of digits before a point and behind it, where there is at least one digit and nothing else, the
-- exponent is right and the number not too great
abbrev pub degrees_with_tens : List ℕ → List ℕ → Option (ℕ × ℕ) → Option ℕ
degrees_with_tens units decimals None = None
degrees_with_tens units decimals (Some tens) = if are_digits (units ++ decimals) then up_to most_microdegrees (microdegrees_of units decimals tens) else None

-- the microdegrees of a text without spaces and sign; its digits stand before its first 'e' or 'E', round the first point
abbrev pub unsigned_value : List ℕ → Option ℕ
unsigned_value text =
    degrees_with_tens (before_first is_point (before_first is_exponent_mark text)) (after_first is_point (before_first is_exponent_mark text)) (tens_of text)

abbrev pub signed : Bool → ℕ → ℤ
signed negative size = if negative then neg_ℤ (pos size) else pos size

-- the whole microdegrees that a text spells, cut towards zero, up to 10^12 either way, spaces at both ends aside
abbrev pub degree_value : List ℕ → Option ℤ
degree_value text = option_map (signed (is_negative (trimmed text))) (unsigned_value (without_sign (trimmed text)))
