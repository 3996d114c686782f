-- What rows of `stop_times.txt` say one by one.
use Rattle.std.specs.Prelude.{◌≡◌, true, false, ℕ, zero, suc, ◌<◌, ◌≤◌, ◌^◌, not, ◌&&◌, List, [], ◌∷◌, filter, map, length, Option, Some, None, is_none, unwrap_or, if◌then◌else◌, MatchOption}
use Rattle.map_base.specs.declared.ids.StationId.{StationId}
use Rattle.ordered_entries.specs.declared.entry.Entry.{Entry}
use Rattle.table_rows.specs.declared.why.Why.{Why}
use Rattle.table_rows.specs.declared.why.Why.TheVariants.{WrongFields, NotUtf8, BadWhole, UnknownTrip, UnknownStop}
use Rattle.table_rows.specs.Ids.{is_among}
use Rattle.table_rows.specs.Cells.{Row, row_at, rows_before, field_in, ends_early, is_text}
use Rattle.table_rows.specs.Reasons.{first_met, first_below, header_reason}
use Rattle.sequence_tables.specs.declared.stop_time_columns.StopTimeColumns.{StopTimeColumns}
use Rattle.sequence_tables.specs.declared.reads.Read.{Read}
use Rattle.sequence_tables.specs.declared.reads.Reads.{Reads}
use Rattle.stop_table.specs.declared.known.KnownStops.{KnownStops}
use Rattle.route_tables.specs.declared.known.KnownTrips.{KnownTrips}
use Rattle.sequence_tables.specs.Reads.{places_before, StandOnce}
use Rattle.sequence_tables.specs.StopTimes.{stop_time_columns, required_columns, sequence_in, station_in, station_at, is_read}
use Rattle.route_tables.specs.Trips.{trip_place}

-- the reasons of a row that it has whatever stands in other rows of the table
abbrev pub own_reason : KnownTrips → KnownStops → StopTimeColumns → Row → Option Why
own_reason trips stops c row = first_met (
    (ends_early row (required_columns c), WrongFields)
    ∷ (not (is_text row), NotUtf8)
    ∷ (is_read trips c row && is_none (sequence_in c row), BadWhole)
    ∷ (not (is_among (field_in row c.trip) trips.ids), UnknownTrip)
    ∷ (is_read trips c row && is_none (station_in stops c row), UnknownStop)
    ∷ [])

-- the reasons that the row at a place has whatever stands in other rows; the header stands at place 0
abbrev pub own_reason_at : KnownTrips → KnownStops → List Row → ℕ → Option Why
own_reason_at trips stops rows zero = header_reason (required_columns (stop_time_columns rows)) (row_at rows 0)
own_reason_at trips stops rows (suc n) = own_reason trips stops (stop_time_columns rows) (row_at rows (suc n))

-- the place of a row's trip among all trips, and the row's sequence
abbrev pub entry_in : KnownTrips → StopTimeColumns → Row → Entry
entry_in trips c row = record { key = unwrap_or (trip_place trips (field_in row c.trip)) 0; sequence = unwrap_or (sequence_in c row) 0 }

-- what a row says that is read in full
abbrev pub read_in : KnownTrips → KnownStops → StopTimeColumns → Row → Option (Read StationId)
read_in trips stops c row = if is_read trips c row then Some (record { entry = entry_in trips c row; value = station_at stops c row }) else None

-- why a row that is read in full can't be
abbrev pub FailsInFull : KnownStops → StopTimeColumns → Row → Why → Type 0
FailsInFull stops c row BadWhole = is_none (sequence_in c row) ≡ true
FailsInFull stops c row UnknownStop = (is_none (sequence_in c row) ≡ false) × (is_none (station_in stops c row) ≡ true)
FailsInFull stops c row other = ⊥

-- trips that are numbered by their ids
pub record AreNumbered (trips : KnownTrips) : Type 0 where
  pub lines : length trips.lines ≡ length trips.ids
  pub few : length trips.ids ≤ 2 ^ 32
  pub apart : StandOnce trips.ids

-- what was read of the rows before a place, none of which is bad by itself, and whether the row at that place is
pub record AreReads (trips : KnownTrips) (stops : KnownStops) (rows : List Row) (reads : Reads StationId) : Type 0 where
  pub within : reads.upto ≤ length rows
  pub passed : first_below (own_reason_at trips stops rows) reads.upto ≡ None
  pub stopped : MatchOption reads.stopped (reads.upto ≡ length rows) (λ why. (reads.upto < length rows) × (own_reason_at trips stops rows reads.upto ≡ Some why))
  pub entries : reads.entries ≡ map (entry_in trips (stop_time_columns rows)) (filter (is_read trips (stop_time_columns rows)) (rows_before reads.upto rows))
  pub stations : reads.values ≡ map (station_at stops (stop_time_columns rows)) (filter (is_read trips (stop_time_columns rows)) (rows_before reads.upto rows))
  pub places : reads.places ≡ places_before (is_read trips (stop_time_columns rows)) reads.upto rows
