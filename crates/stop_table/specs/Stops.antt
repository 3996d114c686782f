-- `stops.txt`: which of its rows is bad, and which stations it gives (GTFS Schedule reference, stops.txt).
use Rattle.std.specs.Prelude.{ℕ, zero, suc, ℤ, pos, Bool, true, false, not, ◌&&◌, ◌==◌, List, [], ◌∷◌, drop, filter, filter_map, Option, Some, None, is_none, unwrap_or, option_and_then, Result, if◌then◌else◌, codes}
use Rattle.std.specs.List.{list_any}
use Rattle.table_rows.specs.Values.{number_of}
use Rattle.table_rows.specs.Degrees.{latitude_of, longitude_of}
use Rattle.table_rows.specs.declared.why.Table.TheVariants as tables
use Rattle.table_rows.specs.declared.why.Why.{Why}
use Rattle.table_rows.specs.declared.why.Why.TheVariants.{WrongFields, NotUtf8, EmptyId, RepeatedId, BadLatitude, BadLongitude, BadType, UnknownParent}
use Rattle.table_rows.specs.declared.fault.FeedFault.{FeedFault}
use Rattle.transit_feed.specs.declared.station.Station.{Station}
use Rattle.stop_table.specs.declared.stop_columns.StopColumns.{StopColumns}
use Rattle.stop_table.specs.declared.stop_columns.LocationType.{LocationType}
use Rattle.stop_table.specs.declared.stop_columns.LocationType.TheVariants as kind
use Rattle.table_rows.specs.Ids.{is_among}
use Rattle.table_rows.specs.Cells.{Row, row_at, column_of, field_in, ids_in, rows_before, ends_early, is_empty, is_text}
use Rattle.table_rows.specs.Folder.{file_outcome, required_rows}
use Rattle.table_rows.specs.Outcome.{◌>>=◌}
use Rattle.table_rows.specs.Reasons.{first_met, header_reason, first_bad, unless_bad}

-- where the columns stand
abbrev pub stop_columns : List Row → StopColumns
stop_columns rows = record {
  id = column_of (codes "stop_id") rows;
  name = column_of (codes "stop_name") rows;
  lat = column_of (codes "stop_lat") rows;
  lon = column_of (codes "stop_lon") rows;
  kind = column_of (codes "location_type") rows;
  parent = column_of (codes "parent_station") rows;
}

-- the columns that have to be there, and that no row may end before
abbrev pub required_columns : StopColumns → List (Option ℕ)
required_columns c = c.id ∷ c.lat ∷ c.lon ∷ []

-- the location type of this number
abbrev pub type_of_number : ℕ → Option LocationType
type_of_number n =
    if n == 0 then Some kind.Stop
    else if n == 1 then Some kind.Station
    else if n == 2 then Some kind.Entrance
    else if n == 3 then Some kind.GenericNode
    else if n == 4 then Some kind.BoardingArea
    else None

-- the location type that a field spells; an empty one is a stop
abbrev pub location_type : List ℕ → Option LocationType
location_type [] = Some kind.Stop
location_type (byte ∷ rest) = option_and_then type_of_number (number_of (byte ∷ rest))

abbrev pub type_in : StopColumns → Row → Option LocationType
type_in c row = location_type (field_in row c.kind)

-- whether a row of this type has its latitude and longitude read: a stop or a station
abbrev pub is_placed : Option LocationType → Bool
is_placed (Some kind.Stop) = true
is_placed (Some kind.Station) = true
is_placed other = false

-- whether a row's type is this one
abbrev pub has_type : LocationType → Option LocationType → Bool
has_type kind.Stop (Some kind.Stop) = true
has_type kind.Station (Some kind.Station) = true
has_type kind.Entrance (Some kind.Entrance) = true
has_type kind.GenericNode (Some kind.GenericNode) = true
has_type kind.BoardingArea (Some kind.BoardingArea) = true
has_type wanted other = false

abbrev pub latitude_in : StopColumns → Row → Option ℤ
latitude_in c row = latitude_of (field_in row c.lat)

abbrev pub longitude_in : StopColumns → Row → Option ℤ
longitude_in c row = longitude_of (field_in row c.lon)

-- the rows of one type
abbrev pub rows_of_type : LocationType → StopColumns → List Row → List Row
rows_of_type wanted c rows = filter (λ row. has_type wanted (type_in c row)) rows

-- the ids of all rows of the table that are of one type, bad rows among them
abbrev pub ids_of_type : LocationType → StopColumns → List Row → List (List ℕ)
ids_of_type wanted c rows = ids_in c.id (rows_of_type wanted c (drop 1 rows))

-- whether a row behind the header is a boarding area
abbrev pub has_boarding_area : StopColumns → List Row → Bool
has_boarding_area c rows = list_any (λ row. has_type kind.BoardingArea (type_in c row)) (drop 1 rows)

-- Whether a row names a parent that is not there. The parent of a stop is a station, that of a boarding area
-- is a stop; the parents of other rows are not read.
abbrev pub lacks_parent : StopColumns → List Row → Option LocationType → List ℕ → Bool
lacks_parent c rows (Some kind.Stop) parent = not (is_empty parent) && not (is_among parent (ids_of_type kind.Station c rows))
lacks_parent c rows (Some kind.BoardingArea) parent = not (is_empty parent) && not (is_among parent (ids_of_type kind.Stop c rows))
lacks_parent c rows other parent = false

-- What is wrong with the row at a place behind the header. Where its type is bad, its latitude and longitude
-- are not read.
abbrev pub stop_reason : StopColumns → List Row → ℕ → Option Why
stop_reason c rows place =
    let row = row_at rows place in
    first_met (
    (ends_early row (required_columns c), WrongFields)
    ∷ (not (is_text row), NotUtf8)
    ∷ (is_empty (field_in row c.id), EmptyId)
    ∷ (is_among (field_in row c.id) (ids_in c.id (rows_before place rows)), RepeatedId)
    ∷ (is_placed (type_in c row) && is_none (latitude_in c row), BadLatitude)
    ∷ (is_placed (type_in c row) && is_none (longitude_in c row), BadLongitude)
    ∷ (is_none (type_in c row), BadType)
    ∷ (lacks_parent c rows (type_in c row) (field_in row c.parent), UnknownParent)
    ∷ [])

-- the three of these that a row's place and type give
abbrev pub place_reason : StopColumns → Row → Option Why
place_reason c row = first_met (
    (is_placed (type_in c row) && is_none (latitude_in c row), BadLatitude)
    ∷ (is_placed (type_in c row) && is_none (longitude_in c row), BadLongitude)
    ∷ (is_none (type_in c row), BadType)
    ∷ [])

-- what is wrong with the row at a place; the header stands at place 0
abbrev pub stops_reason : List Row → ℕ → Option Why
stops_reason rows zero = header_reason (required_columns (stop_columns rows)) (row_at rows 0)
stops_reason rows (suc n) = stop_reason (stop_columns rows) rows (suc n)

-- whether a row is a station: one of type 1, or a stop without a parent
abbrev pub is_own_station : Option LocationType → List ℕ → Bool
is_own_station (Some kind.Station) parent = true
is_own_station (Some kind.Stop) parent = is_empty parent
is_own_station other parent = false

-- the station that a row is, if it is one
abbrev pub station_of : StopColumns → Row → Option Station
station_of c row =
    if is_own_station (type_in c row) (field_in row c.parent)
    then Some (record {
      id = field_in row c.id;
      name = field_in row c.name;
      lat = unwrap_or (latitude_in c row) (pos 0);
      lon = unwrap_or (longitude_in c row) (pos 0);
    })
    else None

-- the stations of a table, in the order of its rows
abbrev pub stations_of : List Row → List Station
stations_of rows = filter_map (station_of (stop_columns rows)) (drop 1 rows)

-- the stations of a table, or its first bad row
abbrev pub stops_of : List Row → Result (List Station) FeedFault
stops_of rows = unless_bad tables.Stops (first_bad (stops_reason rows) rows) (stations_of rows)

-- the stations of the bytes of the table, if it is there
abbrev pub stops_of_file : Option (List ℕ) → Result (List Station) FeedFault
stops_of_file bytes = do
  rows ← required_rows tables.Stops bytes
  stops_of rows

-- What `stops.txt` gives, told its bytes or that it is missing: its stations, or why it is refused.
abbrev pub stops_outcome : Option (List ℕ) → Result (List Station) FeedFault
stops_outcome file = do
  bytes ← file_outcome file
  stops_of_file bytes
