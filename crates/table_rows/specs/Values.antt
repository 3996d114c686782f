-- What the bytes of a field, and of a file, are read as. These words stand for those of `gtfs_fields`, whose
-- bodies a proof seldom needs.
use Rattle.std.specs.Prelude.{ℕ, ℤ, List, Option}
use Rattle.gtfs_fields.specs.Records.{records_of}
use Rattle.gtfs_fields.specs.Spaces.{trimmed}
use Rattle.gtfs_fields.specs.WholeNumber.{whole_value}
use Rattle.gtfs_fields.specs.DegreeText.{degree_value}
use Rattle.gtfs_fields.specs.HexColour.{colour_value}

-- the rows of a file: its records, after one byte order mark
unfoldable pub rows_of : List ℕ → List (List (List ℕ))
rows_of bytes = records_of bytes

-- a field without the spaces at both its ends
unfoldable pub bare : List ℕ → List ℕ
bare field = trimmed field

-- the whole number that a field spells
unfoldable pub number_of : List ℕ → Option ℕ
number_of field = whole_value field

-- the whole microdegrees that a field spells
unfoldable pub degrees_of : List ℕ → Option ℤ
degrees_of field = degree_value field

-- the red, green and blue that a field spells
unfoldable pub colour_of : List ℕ → Option (List ℕ)
colour_of field = colour_value field
