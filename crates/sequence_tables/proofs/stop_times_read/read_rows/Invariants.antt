use Rattle.std.proofs.Common.{◌≡◌, ◌≤◌, map, filter, drop, length, None}
use Rattle.gtfs_fields.specs.RowByRow.{IsReading, rows_to_come}
use Rattle.table_rows.specs.Cells.{rows_before}
use Rattle.table_rows.specs.Reasons.{first_below}
use Rattle.sequence_tables.specs.Reads.{places_before}
use Rattle.sequence_tables.specs.RowsFrom.{rows_from}
use Rattle.sequence_tables.specs.StopTimes.{is_read, station_at}
use Rattle.sequence_tables.specs.StopTimeReads.{own_reason_at, entry_in}
use Rattle.route_tables.specs.Trips.{trip_place}
use Rattle.sequence_tables.proofs.stop_times_read.read_rows.Given as goal

abbrev pub invariant-loop-last : goal.invariant-loop-last
invariant-loop-last l =
    let rows = rows_from l.initial.reader in
    record {
      reading : IsReading l.reader;
      from : 1 ≤ l.place;
      within : l.place ≤ length rows;
      coming : drop l.place rows ≡ rows_to_come l.reader;
      last : l.last.place ≡ trip_place l.trips l.last.id.items;
      good : first_below (own_reason_at l.trips l.stops rows) l.place ≡ None;
      entries : l.so_far.entries.items ≡ map (entry_in l.trips l.columns) (filter (is_read l.trips l.columns) (rows_before l.place rows));
      stations : l.so_far.values.items ≡ map (station_at l.stops l.columns) (filter (is_read l.trips l.columns) (rows_before l.place rows));
      places : l.so_far.places ≡ places_before (is_read l.trips l.columns) l.place rows;
    }

abbrev pub decreases-loop-last : goal.decreases-loop-last
decreases-loop-last l = length (rows_to_come l.reader)
