-- `trips.txt`: which of its rows is bad, and which trips it gives (GTFS Schedule reference, trips.txt).
use Rattle.std.specs.Prelude.{ℕ, zero, suc, Bool, not, ◌&&◌, List, [], ◌∷◌, drop, map, Option, Some, None, is_some, option_and_then, Result, codes}
use Rattle.std.specs.List.{slice_index_or}
use Rattle.table_rows.specs.declared.why.Table.TheVariants as tables
use Rattle.table_rows.specs.declared.why.Why.{Why}
use Rattle.table_rows.specs.declared.why.Why.TheVariants.{WrongFields, NotUtf8, EmptyId, RepeatedId, UnknownRoute}
use Rattle.table_rows.specs.declared.fault.FeedFault.{FeedFault}
use Rattle.table_rows.specs.Ids.{is_among, place_among}
use Rattle.table_rows.specs.Cells.{Row, row_at, column_of, field_in, ids_in, rows_before, ends_early, is_empty, is_text}
use Rattle.table_rows.specs.Reasons.{first_met, header_reason, first_bad, unless_bad}
use Rattle.route_tables.specs.declared.trip_columns.TripColumns.{TripColumns}
use Rattle.route_tables.specs.declared.known.KnownRoutes.{KnownRoutes}
use Rattle.route_tables.specs.declared.known.KnownTrips.{KnownTrips}

-- where the columns stand
abbrev pub trip_columns : List Row → TripColumns
trip_columns rows = record {
  route = column_of (codes "route_id") rows;
  id = column_of (codes "trip_id") rows;
  shape = column_of (codes "shape_id") rows;
}

-- the columns that have to be there, and that no row may end before
abbrev pub required_columns : TripColumns → List (Option ℕ)
required_columns c = c.route ∷ c.id ∷ []

-- what is wrong with the row at a place behind the header
abbrev pub trip_reason : KnownRoutes → TripColumns → List Row → ℕ → Option Why
trip_reason routes c rows place =
    let row = row_at rows place in
    first_met (
    (ends_early row (required_columns c), WrongFields)
    ∷ (not (is_text row), NotUtf8)
    ∷ (is_empty (field_in row c.id), EmptyId)
    ∷ (is_among (field_in row c.id) (ids_in c.id (rows_before place rows)), RepeatedId)
    ∷ (not (is_among (field_in row c.route) routes.ids), UnknownRoute)
    ∷ [])

-- what is wrong with the row at a place; the header stands at place 0
abbrev pub trips_reason : KnownRoutes → List Row → ℕ → Option Why
trips_reason routes rows zero = header_reason (required_columns (trip_columns rows)) (row_at rows 0)
trips_reason routes rows (suc n) = trip_reason routes (trip_columns rows) rows (suc n)

-- the number of the line that a row names, where its route is selected
abbrev pub line_in : KnownRoutes → TripColumns → Row → Option ℕ
line_in routes c row = place_among routes.line_ids (field_in row c.route)

-- the shape that a trip of this line names; one that is not selected names none
abbrev pub shape_by : Option ℕ → List ℕ → List ℕ
shape_by None shape = []
shape_by (Some line) shape = shape

abbrev pub shape_in : KnownRoutes → TripColumns → Row → List ℕ
shape_in routes c row = shape_by (line_in routes c row) (field_in row c.shape)

-- the trips of a table by their ids
abbrev pub known_trips : KnownRoutes → List Row → KnownTrips
known_trips routes rows = record {
  ids = ids_in (trip_columns rows).id (drop 1 rows);
  lines = map (line_in routes (trip_columns rows)) (drop 1 rows);
  shapes = map (shape_in routes (trip_columns rows)) (drop 1 rows);
}

-- the trips of a table, or its first bad row
abbrev pub trips_of : KnownRoutes → List Row → Result KnownTrips FeedFault
trips_of routes rows = unless_bad tables.Trips (first_bad (trips_reason routes rows) rows) (known_trips routes rows)

-- the place of the trip of an id
abbrev pub trip_place : KnownTrips → List ℕ → Option ℕ
trip_place trips id = place_among trips.ids id

-- the line of the trip at a place, where it is selected
abbrev pub line_at : KnownTrips → ℕ → Option ℕ
line_at trips place = slice_index_or trips.lines place None

-- whether an id is that of a selected trip
abbrev pub is_selected : KnownTrips → List ℕ → Bool
is_selected trips id = is_some (option_and_then (line_at trips) (trip_place trips id))

-- whether a selected trip names a shape; an empty id names none
abbrev pub is_named : KnownTrips → List ℕ → Bool
is_named trips shape = not (is_empty shape) && is_among shape trips.shapes
