use Rattle.std.proofs.Common.{◌≡◌, None}
use Rattle.table_rows.specs.Ids.{AreSame}
use Rattle.table_rows.specs.Cells.{rows_before, ids_in}
use Rattle.table_rows.specs.Reasons.{first_below}
use Rattle.stop_table.specs.Stops.{stops_reason}
use Rattle.stop_table.proofs.stops_check.check_rows.Given as goal

abbrev pub invariant-loop-row : goal.invariant-loop-row
invariant-loop-row l = record {
  good : first_below (stops_reason l.rows) l.row ≡ None;
  seen : AreSame l.seen (ids_in l.columns.id (rows_before l.row l.rows));
}
