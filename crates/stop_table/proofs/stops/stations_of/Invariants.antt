use Rattle.std.proofs.Common.{◌≡◌}
use Rattle.std.specs.List.{filter_map}
use Rattle.table_rows.specs.Cells.{rows_before}
use Rattle.stop_table.specs.Stops.{station_of}
use Rattle.stop_table.proofs.stops.stations_of.Given as goal

abbrev pub invariant-loop-row : goal.invariant-loop-row
invariant-loop-row l = l.stations.items ≡ filter_map (station_of l.columns) (rows_before l.row l.rows)
