use Rattle.std.proofs.Common.{◌≡◌, filter}
use Rattle.table_rows.specs.Cells.{rows_before, ids_in}
use Rattle.route_tables.specs.Routes.{is_selected}
use Rattle.route_tables.proofs.routes.line_ids.Given as goal

abbrev pub invariant-loop-row : goal.invariant-loop-row
invariant-loop-row l = l.ids ≡ ids_in l.columns.id (filter (is_selected l.types l.columns) (rows_before l.row l.rows))
