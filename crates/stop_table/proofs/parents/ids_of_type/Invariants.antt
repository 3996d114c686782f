use Rattle.table_rows.specs.Ids.{AreSame}
use Rattle.table_rows.specs.Cells.{rows_before, ids_in}
use Rattle.stop_table.specs.Stops.{rows_of_type}
use Rattle.stop_table.proofs.parents.ids_of_type.Given as goal

abbrev pub invariant-loop-row : goal.invariant-loop-row
invariant-loop-row l = AreSame l.ids (ids_in l.columns.id (rows_of_type l.wanted l.columns (rows_before l.row l.rows)))
