use Rattle.std.proofs.Common.{◌≡◌, map}
use Rattle.table_rows.specs.Cells.{rows_before}
use Rattle.stop_table.specs.Leads.{station_led}
use Rattle.stop_table.proofs.leads.stations_led.Given as goal

abbrev pub invariant-loop-row : goal.invariant-loop-row
invariant-loop-row l = l.led.items ≡ map (station_led l.columns l.rows) (rows_before l.row l.rows)
