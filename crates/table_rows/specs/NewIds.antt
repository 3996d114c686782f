-- Rows that each give an id of their own.
use Rattle.std.specs.Prelude.{◌≡◌, ◌≤◌, ◌<◌, ℕ, false, List, length, Option}
use Rattle.table_rows.specs.Ids.{is_among}
use Rattle.table_rows.specs.Cells.{Row, row_at, rows_before, field_in, ids_in}

-- no row behind the header gives the id of an earlier one
pub record AreNew (column : Option ℕ) (rows : List Row) : Type 0 where
  pub new : (place : ℕ) → 1 ≤ place → place < length rows → is_among (field_in (row_at rows place) column) (ids_in column (rows_before place rows)) ≡ false
