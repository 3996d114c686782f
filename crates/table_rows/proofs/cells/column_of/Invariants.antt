use Rattle.std.proofs.Common.{◌≡◌, ◌<◌, ℕ, false, [], get_or, bytes_eq}
use Rattle.table_rows.specs.Values.{bare}
use Rattle.table_rows.specs.Cells.{row_at}
use Rattle.table_rows.proofs.cells.column_of.Given as goal

abbrev pub invariant-loop-column : goal.invariant-loop-column
invariant-loop-column l = (k : ℕ) → k < l.column → bytes_eq (bare (get_or (row_at l.rows 0) k [])) l.name ≡ false
