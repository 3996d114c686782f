-- The rows of a table that is read row by row.
use Rattle.std.specs.Prelude.{List, ◌∷◌}
use Rattle.gtfs_fields.specs.RowByRow.{row_read, rows_to_come}
use Rattle.gtfs_fields.specs.declared.row_reader.RowReader.{RowReader}
use Rattle.table_rows.specs.Cells.{Row}

-- the row that was read last, and those to come
abbrev pub rows_from : RowReader → List Row
rows_from reader = row_read reader ∷ rows_to_come reader
