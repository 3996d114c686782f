-- `stop_times.txt`: which of its rows is bad, and which stations it gives each trip (GTFS Schedule reference,
-- stop_times.txt).
use Rattle.std.specs.Prelude.{ℕ, zero, suc, Bool, not, ◌&&◌, List, [], ◌∷◌, drop, filter, map, Option, is_none, unwrap_or, Result, codes, bytes_eq}
use Rattle.std.specs.List.{list_any}
use Rattle.map_base.specs.declared.ids.StationId.{StationId}
use Rattle.table_rows.specs.declared.why.Table.TheVariants as tables
use Rattle.table_rows.specs.declared.why.Why.{Why}
use Rattle.table_rows.specs.declared.why.Why.TheVariants.{WrongFields, NotUtf8, BadWhole, UnknownTrip, UnknownStop, RepeatedSequence}
use Rattle.table_rows.specs.declared.fault.FeedFault.{FeedFault}
use Rattle.table_rows.specs.Folder.{required_rows}
use Rattle.table_rows.specs.Outcome.{◌>>=◌}
use Rattle.table_rows.specs.Ids.{is_among}
use Rattle.table_rows.specs.Values.{number_of}
use Rattle.table_rows.specs.Cells.{Row, row_at, column_of, field_in, rows_before, ends_early, is_empty, is_text}
use Rattle.table_rows.specs.Reasons.{first_met, header_reason, first_bad, unless_bad}
use Rattle.sequence_tables.specs.declared.stop_time_columns.StopTimeColumns.{StopTimeColumns}
use Rattle.stop_table.specs.declared.known.KnownStops.{KnownStops}
use Rattle.route_tables.specs.declared.known.KnownTrips.{KnownTrips}
use Rattle.stop_table.specs.Leads.{station_of_id}
use Rattle.ordered_entries.specs.Rising.{by_rising}
use Rattle.sequence_tables.specs.Shapes.{is_same_number}
use Rattle.route_tables.specs.Trips.{is_selected}

-- where the columns stand
abbrev pub stop_time_columns : List Row → StopTimeColumns
stop_time_columns rows = record {
  trip = column_of (codes "trip_id") rows;
  stop = column_of (codes "stop_id") rows;
  sequence = column_of (codes "stop_sequence") rows;
}

-- the columns that have to be there, and that no row may end before
abbrev pub required_columns : StopTimeColumns → List (Option ℕ)
required_columns c = c.trip ∷ c.stop ∷ c.sequence ∷ []

abbrev pub sequence_in : StopTimeColumns → Row → Option ℕ
sequence_in c row = number_of (field_in row c.sequence)

-- whether a row is read in full: its trip is selected, and its stop_id is not empty
abbrev pub is_read : KnownTrips → StopTimeColumns → Row → Bool
is_read trips c row = is_selected trips (field_in row c.trip) && not (is_empty (field_in row c.stop))

-- the number of the station to which a row's stop leads
abbrev pub station_in : KnownStops → StopTimeColumns → Row → Option ℕ
station_in stops c row = station_of_id stops (field_in row c.stop)

-- whether another row is read in full and has this row's trip and sequence
abbrev pub is_same_place : KnownTrips → StopTimeColumns → Row → Row → Bool
is_same_place trips c row other = is_read trips c other && bytes_eq (field_in row c.trip) (field_in other c.trip) && is_same_number (sequence_in c row) (sequence_in c other)

-- whether an earlier row that is read in full has this row's trip and sequence
abbrev pub is_repeated : KnownTrips → StopTimeColumns → List Row → ℕ → Bool
is_repeated trips c rows place = list_any (is_same_place trips c (row_at rows place)) (rows_before place rows)

-- What is wrong with the row at a place behind the header. A row that is not read in full is read for its trip.
abbrev pub stop_time_reason : KnownTrips → KnownStops → StopTimeColumns → List Row → ℕ → Option Why
stop_time_reason trips stops c rows place =
    let row = row_at rows place in
    first_met (
    (ends_early row (required_columns c), WrongFields)
    ∷ (not (is_text row), NotUtf8)
    ∷ (is_read trips c row && is_none (sequence_in c row), BadWhole)
    ∷ (not (is_among (field_in row c.trip) trips.ids), UnknownTrip)
    ∷ (is_read trips c row && is_none (station_in stops c row), UnknownStop)
    ∷ (is_read trips c row && is_repeated trips c rows place, RepeatedSequence)
    ∷ [])

-- what is wrong with the row at a place; the header stands at place 0
abbrev pub stop_times_reason : KnownTrips → KnownStops → List Row → ℕ → Option Why
stop_times_reason trips stops rows zero = header_reason (required_columns (stop_time_columns rows)) (row_at rows 0)
stop_times_reason trips stops rows (suc n) = stop_time_reason trips stops (stop_time_columns rows) rows (suc n)

-- the rows of a trip that are read in full, in their order
abbrev pub rows_of_trip : KnownTrips → StopTimeColumns → List Row → List ℕ → List Row
rows_of_trip trips c rows trip = filter (λ row. is_read trips c row && bytes_eq trip (field_in row c.trip)) (drop 1 rows)

-- the station of a row that is not bad
abbrev pub station_at : KnownStops → StopTimeColumns → Row → StationId
station_at stops c row = record { 0 = unwrap_or (station_in stops c row) 0 }

-- the stations of a trip by rising sequence
abbrev pub stations_of_trip : KnownTrips → KnownStops → StopTimeColumns → List Row → List ℕ → List StationId
stations_of_trip trips stops c rows trip = map (station_at stops c) (by_rising (λ row. unwrap_or (sequence_in c row) 0) (rows_of_trip trips c rows trip))

-- the stations of each trip, in the order of `trips.txt`
abbrev pub trip_stations : KnownTrips → KnownStops → List Row → List (List StationId)
trip_stations trips stops rows = map (stations_of_trip trips stops (stop_time_columns rows) rows) trips.ids

-- the stations of each trip that a table gives, or its first bad row
abbrev pub stop_times_of : KnownTrips → KnownStops → List Row → Result (List (List StationId)) FeedFault
stop_times_of trips stops rows = unless_bad tables.StopTimes (first_bad (stop_times_reason trips stops rows) rows) (trip_stations trips stops rows)

-- the stations of each trip that the file of the table gives, which has to be there, or its first bad row
abbrev pub stop_times_of_file : KnownTrips → KnownStops → Option (List ℕ) → Result (List (List StationId)) FeedFault
stop_times_of_file trips stops file = required_rows tables.StopTimes file >>= stop_times_of trips stops
