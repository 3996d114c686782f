use Rattle.std.proofs.Common.{◌≡◌}
use Rattle.table_rows.specs.Cells.{rows_before, ids_in}
use Rattle.table_rows.proofs.row_ids.ids_of_rows.Given as goal

abbrev pub invariant-loop-row : goal.invariant-loop-row
invariant-loop-row l = l.ids ≡ ids_in l.column (rows_before l.row l.rows)
