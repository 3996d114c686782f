-- Whole numbers: one or more decimal digits, of a value that 32 bits hold.
use Rattle.std.specs.Prelude.{ℕ, List, Option, None, if◌then◌else◌}
use Rattle.std.specs.Str.Parse.{digits_value}
use Rattle.gtfs_fields.specs.Spaces.{trimmed}
use Rattle.gtfs_fields.specs.Digits.{are_digits, up_to}

-- the whole number that a text spells, spaces at both ends aside
abbrev pub whole_value : List ℕ → Option ℕ
whole_value text = if are_digits (trimmed text) then up_to 4294967295 (digits_value 10 (trimmed text)) else None
