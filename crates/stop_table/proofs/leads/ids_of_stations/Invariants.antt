use Rattle.std.proofs.Common.{◌≡◌, filter}
use Rattle.table_rows.specs.Cells.{rows_before, ids_in}
use Rattle.stop_table.proofs.LeadLemmas.{is_station_row}
use Rattle.stop_table.proofs.leads.ids_of_stations.Given as goal

abbrev pub invariant-loop-row : goal.invariant-loop-row
invariant-loop-row l = l.ids ≡ ids_in l.columns.id (filter (is_station_row l.columns) (rows_before l.row l.rows))
