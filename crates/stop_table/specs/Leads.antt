-- The station to which a row of `stops.txt` leads (GTFS Schedule reference, parent_station).
use Rattle.std.specs.Prelude.{ℕ, ◌+◌, List, drop, map, Option, Some, None, option_and_then, Result, if◌then◌else◌}
use Rattle.std.specs.List.{slice_index_or}
use Rattle.transit_feed.specs.declared.station.Station.{Station}
use Rattle.table_rows.specs.declared.why.Table.TheVariants as tables
use Rattle.table_rows.specs.declared.fault.FeedFault.{FeedFault}
use Rattle.table_rows.specs.Ids.{place_among}
use Rattle.table_rows.specs.Cells.{Row, row_at, field_in, ids_in, is_empty}
use Rattle.table_rows.specs.Reasons.{first_bad, unless_bad}
use Rattle.stop_table.specs.declared.stop_columns.StopColumns.{StopColumns}
use Rattle.stop_table.specs.declared.stop_columns.LocationType.{LocationType}
use Rattle.stop_table.specs.declared.stop_columns.LocationType.TheVariants as kind
use Rattle.stop_table.specs.declared.known.KnownStops.{KnownStops}
use Rattle.stop_table.specs.declared.known.FeedStops.{FeedStops}
use Rattle.stop_table.specs.Stops.{stop_columns, type_in, stations_of, stops_reason}

-- the ids that the rows behind the header give
abbrev pub stop_ids : StopColumns → List Row → List (List ℕ)
stop_ids c rows = ids_in c.id (drop 1 rows)

-- The id of the station to which a row that is no boarding area leads: a station, and a stop without a parent, lead
-- to themselves, and a stop with a parent to that.
abbrev pub near_lead : Option LocationType → List ℕ → List ℕ → Option (List ℕ)
near_lead (Some kind.Station) id parent = Some id
near_lead (Some kind.Stop) id parent = if is_empty parent then Some id else Some parent
near_lead other id parent = None

abbrev pub near_lead_in : StopColumns → Row → Option (List ℕ)
near_lead_in c row = near_lead (type_in c row) (field_in row c.id) (field_in row c.parent)

-- where the row of an id leads that is no boarding area; a boarding area without a parent finds no such row
abbrev pub lead_of_id : StopColumns → List Row → List ℕ → Option (List ℕ)
lead_of_id c rows id = option_and_then (λ place. near_lead_in c (row_at rows (place + 1))) (place_among (stop_ids c rows) id)

-- the id of the station to which a row leads: a boarding area leads to what its parent leads to
abbrev pub lead_by_type : StopColumns → List Row → Row → Option LocationType → Option (List ℕ)
lead_by_type c rows row (Some kind.BoardingArea) = lead_of_id c rows (field_in row c.parent)
lead_by_type c rows row other = near_lead other (field_in row c.id) (field_in row c.parent)

abbrev pub lead_in : StopColumns → List Row → Row → Option (List ℕ)
lead_in c rows row = lead_by_type c rows row (type_in c row)

-- the ids of stations
abbrev pub station_ids : List Station → List (List ℕ)
station_ids stations = map (λ (station : Station). station.id) stations

-- the number of the station to which a row leads
abbrev pub station_led : StopColumns → List Row → Row → Option ℕ
station_led c rows row = option_and_then (place_among (station_ids (stations_of rows))) (lead_in c rows row)

-- the stops of a table by their ids
abbrev pub known_stops : List Row → KnownStops
known_stops rows = record {
  ids = stop_ids (stop_columns rows) rows;
  stations = map (station_led (stop_columns rows) rows) (drop 1 rows);
}

-- the number of the station to which an id leads
abbrev pub station_of_id : KnownStops → List ℕ → Option ℕ
station_of_id stops id = option_and_then (λ place. slice_index_or stops.stations place None) (place_among stops.ids id)

-- the stops of a table, or its first bad row
abbrev pub feed_stops : List Row → Result FeedStops FeedFault
feed_stops rows = unless_bad tables.Stops (first_bad (stops_reason rows) rows) (record { stations = stations_of rows; known = known_stops rows })
