-- `shapes.txt`: which of its rows is bad, and which shapes it gives (GTFS Schedule reference, shapes.txt).
use Rattle.std.specs.Prelude.{ℕ, zero, suc, ℤ, pos, Bool, false, not, ◌&&◌, List, [], ◌∷◌, drop, filter, map, length, Option, Some, None, is_none, unwrap_or, Result, Ok, codes, bytes_eq, nat_eq, nat_le}
use Rattle.std.specs.List.{list_any}
use Rattle.transit_feed.specs.declared.shape.Shape.{Shape}
use Rattle.table_rows.specs.declared.why.Table.TheVariants as tables
use Rattle.table_rows.specs.declared.why.Why.{Why}
use Rattle.table_rows.specs.declared.why.Why.TheVariants.{WrongFields, NotUtf8, BadLatitude, BadLongitude, BadWhole, RepeatedSequence}
use Rattle.table_rows.specs.declared.fault.FeedFault.{FeedFault}
use Rattle.table_rows.specs.Firsts.{firsts}
use Rattle.table_rows.specs.Ids.{place_among}
use Rattle.table_rows.specs.Values.{rows_of, number_of}
use Rattle.table_rows.specs.Cells.{Row, row_at, column_of, field_in, ids_in, rows_before, ends_early, is_text}
use Rattle.table_rows.specs.Reasons.{first_met, header_reason, first_bad, unless_bad}
use Rattle.sequence_tables.specs.declared.shape_columns.ShapeColumns.{ShapeColumns}
use Rattle.route_tables.specs.declared.known.KnownTrips.{KnownTrips}
use Rattle.sequence_tables.specs.declared.known.KnownShapes.{KnownShapes}
use Rattle.table_rows.specs.Degrees.{latitude_of, longitude_of}
use Rattle.ordered_entries.specs.Rising.{by_rising}
use Rattle.route_tables.specs.Trips.{is_named}

-- where the columns stand
abbrev pub shape_columns : List Row → ShapeColumns
shape_columns rows = record {
  id = column_of (codes "shape_id") rows;
  lat = column_of (codes "shape_pt_lat") rows;
  lon = column_of (codes "shape_pt_lon") rows;
  sequence = column_of (codes "shape_pt_sequence") rows;
}

-- the columns that have to be there, and that no row may end before
abbrev pub required_columns : ShapeColumns → List (Option ℕ)
required_columns c = c.id ∷ c.lat ∷ c.lon ∷ c.sequence ∷ []

abbrev pub latitude_in : ShapeColumns → Row → Option ℤ
latitude_in c row = latitude_of (field_in row c.lat)

abbrev pub longitude_in : ShapeColumns → Row → Option ℤ
longitude_in c row = longitude_of (field_in row c.lon)

abbrev pub sequence_in : ShapeColumns → Row → Option ℕ
sequence_in c row = number_of (field_in row c.sequence)

-- whether a row is read in full: a selected trip names its shape
abbrev pub is_read : KnownTrips → ShapeColumns → Row → Bool
is_read trips c row = is_named trips (field_in row c.id)

-- whether two numbers are there and are one
abbrev pub is_same_number : Option ℕ → Option ℕ → Bool
is_same_number (Some a) (Some b) = nat_eq a b
is_same_number a b = false

-- whether two rows have one shape and one sequence
abbrev pub is_same_place : ShapeColumns → Row → Row → Bool
is_same_place c row other = bytes_eq (field_in row c.id) (field_in other c.id) && is_same_number (sequence_in c row) (sequence_in c other)

-- whether an earlier row of the same shape has this row's sequence
abbrev pub is_repeated : ShapeColumns → List Row → ℕ → Bool
is_repeated c rows place = list_any (is_same_place c (row_at rows place)) (rows_before place rows)

-- What is wrong with the row at a place behind the header. A row that is not read in full is read for its id.
abbrev pub shape_reason : KnownTrips → ShapeColumns → List Row → ℕ → Option Why
shape_reason trips c rows place =
    let row = row_at rows place in
    first_met (
    (ends_early row (required_columns c), WrongFields)
    ∷ (not (is_text row), NotUtf8)
    ∷ (is_read trips c row && is_none (latitude_in c row), BadLatitude)
    ∷ (is_read trips c row && is_none (longitude_in c row), BadLongitude)
    ∷ (is_read trips c row && is_none (sequence_in c row), BadWhole)
    ∷ (is_read trips c row && is_repeated c rows place, RepeatedSequence)
    ∷ [])

-- what is wrong with the row at a place; the header stands at place 0
abbrev pub shapes_reason : KnownTrips → List Row → ℕ → Option Why
shapes_reason trips rows zero = header_reason (required_columns (shape_columns rows)) (row_at rows 0)
shapes_reason trips rows (suc n) = shape_reason trips (shape_columns rows) rows (suc n)

-- the rows of a shape, in their order
abbrev pub rows_of_shape : ShapeColumns → List Row → List ℕ → List Row
rows_of_shape c rows shape = filter (λ row. bytes_eq shape (field_in row c.id)) (drop 1 rows)

-- latitude and longitude of a row that is not bad
abbrev pub point_in : ShapeColumns → Row → ℤ × ℤ
point_in c row = (unwrap_or (latitude_in c row) (pos 0), unwrap_or (longitude_in c row) (pos 0))

-- the points of a shape by rising sequence
abbrev pub points_of_shape : ShapeColumns → List Row → List ℕ → List (ℤ × ℤ)
points_of_shape c rows shape = map (point_in c) (by_rising (λ row. unwrap_or (sequence_in c row) 0) (rows_of_shape c rows shape))

-- the shapes that selected trips name, in the order of their first rows
abbrev pub named_shapes : KnownTrips → ShapeColumns → List Row → List (List ℕ)
named_shapes trips c rows = firsts bytes_eq (filter (is_named trips) (ids_in c.id (drop 1 rows)))

-- those of them that are kept: they have at least two rows
abbrev pub kept_shapes : KnownTrips → ShapeColumns → List Row → List (List ℕ)
kept_shapes trips c rows = filter (λ shape. nat_le 2 (length (rows_of_shape c rows shape))) (named_shapes trips c rows)

abbrev pub shape_of : ShapeColumns → List Row → List ℕ → Shape
shape_of c rows shape = record { points = points_of_shape c rows shape }

-- the shapes of a table, and the place of each trip's shape among them
abbrev pub known_shapes : KnownTrips → List Row → KnownShapes
known_shapes trips rows =
    let kept = kept_shapes trips (shape_columns rows) rows in
    record {
      shapes = map (shape_of (shape_columns rows) rows) kept;
      of_trips = map (place_among kept) trips.shapes;
    }

-- the shapes of a table, or its first bad row
abbrev pub shapes_of : KnownTrips → List Row → Result KnownShapes FeedFault
shapes_of trips rows = unless_bad tables.Shapes (first_bad (shapes_reason trips rows) rows) (known_shapes trips rows)

-- no shape: that of no trip is kept
abbrev pub no_shapes : KnownTrips → KnownShapes
no_shapes trips = record { shapes = []; of_trips = map (place_among []) trips.shapes }

-- the shapes of the bytes of the table; without the table there is none
abbrev pub shapes_of_file : KnownTrips → Option (List ℕ) → Result KnownShapes FeedFault
shapes_of_file trips None = Ok (no_shapes trips)
shapes_of_file trips (Some bytes) = shapes_of trips (rows_of bytes)
