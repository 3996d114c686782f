use Rattle.std.proofs.Common.{◌≡◌, map}
use Rattle.table_rows.specs.Cells.{rows_before}
use Rattle.route_tables.specs.Trips.{line_in}
use Rattle.route_tables.proofs.trips.lines_of_trips.Given as goal

abbrev pub invariant-loop-row : goal.invariant-loop-row
invariant-loop-row l = l.lines.items ≡ map (line_in l.routes l.columns) (rows_before l.row l.rows)
