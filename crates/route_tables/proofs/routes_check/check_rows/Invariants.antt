use Rattle.std.proofs.Common.{◌≡◌, None}
use Rattle.table_rows.specs.Ids.{AreSame}
use Rattle.table_rows.specs.Cells.{rows_before, ids_in}
use Rattle.table_rows.specs.Reasons.{first_below}
use Rattle.route_tables.specs.Routes.{routes_reason}
use Rattle.route_tables.proofs.routes_check.check_rows.Given as goal

abbrev pub invariant-loop-row : goal.invariant-loop-row
invariant-loop-row l = record {
  good : first_below (routes_reason l.types l.rows) l.row ≡ None;
  seen : AreSame l.seen (ids_in l.columns.id (rows_before l.row l.rows));
}
