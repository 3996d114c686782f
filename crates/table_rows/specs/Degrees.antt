-- Degrees of a place, as a field spells them.
use Rattle.std.specs.Prelude.{ℕ, ℤ, unsigned_abs, List, Option, Some, None, if◌then◌else◌, nat_le}
use Rattle.table_rows.specs.Values.{degrees_of}

-- a number of microdegrees that is at most so many either way
abbrev pub within : ℕ → Option ℤ → Option ℤ
within most None = None
within most (Some degrees) = if nat_le (unsigned_abs degrees) most then Some degrees else None

-- the latitude that a field spells: at most 90 degrees either way
abbrev pub latitude_of : List ℕ → Option ℤ
latitude_of field = within 90000000 (degrees_of field)

-- the longitude that a field spells: at most 180 degrees either way
abbrev pub longitude_of : List ℕ → Option ℤ
longitude_of field = within 180000000 (degrees_of field)
