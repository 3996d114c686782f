-- The rows of a table: the records of its file, each a list of fields, each field a list of bytes.
use Rattle.std.specs.Prelude.{ℕ, Bool, List, [], length}
use Rattle.std.specs.List.{slice_index_or, list_all}
use Rattle.std.specs.Str.{is_utf8}
use Rattle.csv.specs.Reading.{default_config, records, strip_bom}

-- the records that `csv` defines for the bytes, by the quoting of RFC 4180, after one byte order mark
abbrev pub records_of : List ℕ → List (List (List ℕ))
records_of bytes = records default_config (strip_bom bytes)

-- how many fields a row has; rows are counted from 0
abbrev pub width_of : List (List (List ℕ)) → ℕ → ℕ
width_of rows row = length (slice_index_or rows row [])

-- the bytes of one field; rows and columns are counted from 0
abbrev pub field_of : List (List (List ℕ)) → ℕ → ℕ → List ℕ
field_of rows row column = slice_index_or (slice_index_or rows row []) column []

-- whether each field of a row is UTF-8
abbrev pub is_text : List (List ℕ) → Bool
is_text row = list_all is_utf8 row
