-- Rows of a table and their fields, by the columns' names.
use Rattle.std.specs.Prelude.{ℕ, Bool, List, [], Option, Some, None, true, map, take, drop, length, position, bytes_eq, nat_le, ◌==◌, is_none}
use Rattle.std.specs.List.{slice_index_or, list_any, list_all}
use Rattle.std.specs.Str.{is_utf8}
use Rattle.table_rows.specs.Values.{bare}

-- a row: its fields, each a list of bytes
abbrev pub Row : Type 0
Row = List (List ℕ)

-- the row at a place; the header stands at place 0
abbrev pub row_at : List Row → ℕ → Row
row_at rows place = slice_index_or rows place []

-- the rows behind the header and before a place
abbrev pub rows_before : ℕ → List Row → List Row
rows_before place rows = drop 1 (take place rows)

-- the first column whose name in the header, spaces at its ends aside, is this one
abbrev pub column_of : List ℕ → List Row → Option ℕ
column_of name rows = position (λ field. bytes_eq (bare field) name) (row_at rows 0)

-- the field of a row in a column: empty where the column is absent or the row ends before it
abbrev pub field_in : Row → Option ℕ → List ℕ
field_in row None = []
field_in row (Some column) = slice_index_or row column []

-- whether a row ends before its field of a column
abbrev pub ends_before : Row → Option ℕ → Bool
ends_before row None = true
ends_before row (Some column) = nat_le (length row) column

-- whether a row ends before its field of one of these columns
abbrev pub ends_early : Row → List (Option ℕ) → Bool
ends_early row required = list_any (ends_before row) required

-- whether one of these columns is absent
abbrev pub lacks_column : List (Option ℕ) → Bool
lacks_column required = list_any is_none required

-- whether each field of a row, read or not, is UTF-8
abbrev pub is_text : Row → Bool
is_text row = list_all is_utf8 row

-- whether a field is empty
abbrev pub is_empty : List ℕ → Bool
is_empty field = length field == 0

-- the ids that rows give in a column
abbrev pub ids_in : Option ℕ → List Row → List (List ℕ)
ids_in column rows = map (λ row. field_in row column) rows
