-- The rows of a table, read one at a time.
use Rattle.std.specs.Prelude.{◌≡◌, ℕ, Bool, true, false, List, [], ◌∷◌}
use Rattle.csv.specs.Records.{fields_of}
use Rattle.gtfs_fields.specs.RowsLeft.{IsPlain, rows_left}
use Rattle.gtfs_fields.specs.declared.row_reader.RowReader.{RowReader}

-- the row that was read last
unfoldable pub row_read : RowReader → List (List ℕ)
row_read reader = fields_of reader.row

-- the rows behind those that were read
unfoldable pub rows_to_come : RowReader → List (List (List ℕ))
rows_to_come reader = rows_left reader.reader.value

-- a reader that reads on
unfoldable pub IsReading : RowReader → Type 0
IsReading reader = IsPlain reader.reader.value

-- what a read does: it takes the first of the rows to come, if there is one
abbrev pub Reads : RowReader → Bool → RowReader → Type 0
Reads old true new = rows_to_come old ≡ row_read new ∷ rows_to_come new
Reads old false new = rows_to_come old ≡ []
