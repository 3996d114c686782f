use Rattle.std.proofs.Common.{◌≡◌, filter}
use Rattle.table_rows.specs.Cells.{rows_before}
use Rattle.route_tables.specs.Routes.{is_selected, lines_from}
use Rattle.route_tables.proofs.routes.lines_of.Given as goal

abbrev pub invariant-loop-row : goal.invariant-loop-row
invariant-loop-row l = l.lines.items ≡ lines_from l.columns 0 (filter (is_selected l.types l.columns) (rows_before l.row l.rows))
