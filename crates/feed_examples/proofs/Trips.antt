-- Worked examples of `stop_times.txt` and `shapes.txt`, which the definitions have to give.
use Rattle.std.proofs.Common.{◌≡◌, ℕ, pos, List, [], ◌∷◌, Some, None, Ok, Err, refl, codes}
use Rattle.std.specs.Str.{is_utf8, chars}
use lib.Utf8.{encode}
use Rattle.map_base.specs.declared.ids.StationId.{StationId}
use Rattle.table_rows.specs.declared.why.Table.TheVariants as tables
use Rattle.table_rows.specs.declared.why.Why.TheVariants.{WrongFields, UnknownTrip, UnknownStop, RepeatedSequence, MissingColumn}
use Rattle.table_rows.specs.declared.fault.FeedFault.TheVariants.{BadRow}
use Rattle.table_rows.specs.Cells.{Row}
use Rattle.table_rows.specs.Values.{bare, number_of, degrees_of}
use Rattle.stop_table.specs.declared.known.KnownStops.{KnownStops}
use Rattle.route_tables.specs.declared.known.KnownTrips.{KnownTrips}
use Rattle.sequence_tables.specs.StopTimes.{stop_times_of}
use Rattle.sequence_tables.specs.Shapes.{shapes_of}

abbrev at : ℕ → StationId
at n = record { 0 = n }

-- two stations by three stops, and a stop that leads nowhere
abbrev stops : KnownStops
stops = record { ids = codes "a" ∷ codes "b" ∷ codes "b2" ∷ codes "x" ∷ []; stations = Some 0 ∷ Some 1 ∷ Some 1 ∷ None ∷ [] }

-- two trips, of which the second is not selected
abbrev trips : KnownTrips
trips = record { ids = codes "T" ∷ codes "U" ∷ []; lines = Some 0 ∷ None ∷ []; shapes = codes "s" ∷ [] ∷ [] }

abbrev header : Row
header = codes "stop_id" ∷ codes "trip_id" ∷ codes "stop_sequence" ∷ []

abbrev row : List ℕ → List ℕ → List ℕ → Row
row stop trip sequence = stop ∷ trip ∷ sequence ∷ []

-- stations by rising sequence, and none of a trip that is not selected
by_sequence : stop_times_of trips stops (header ∷ row (codes "b2") (codes "T") (codes "10") ∷ row (codes "x") (codes "U") (codes "no") ∷ row (codes "a") (codes "T") (codes " 9 ") ∷ [])
    ≡ Ok ((at 0 ∷ at 1 ∷ []) ∷ [] ∷ [])
unfolding bare number_of is_utf8 chars encode
by_sequence = refl

-- 9 and 09 are one sequence
repeated : stop_times_of trips stops (header ∷ row (codes "a") (codes "T") (codes "9") ∷ row (codes "b") (codes "T") (codes "09") ∷ []) ≡ Err (BadRow tables.StopTimes 3 RepeatedSequence)
unfolding bare number_of is_utf8 chars encode
repeated = refl

unknown_stop : stop_times_of trips stops (header ∷ row (codes "x") (codes "T") (codes "1") ∷ []) ≡ Err (BadRow tables.StopTimes 2 UnknownStop)
unfolding bare number_of is_utf8 chars encode
unknown_stop = refl

-- the first bad row counts, whatever is wrong with later ones
unknown_trip : stop_times_of trips stops (header ∷ row (codes "a") (codes "V") (codes "no") ∷ row (codes "a") (codes "T") (codes "no") ∷ []) ≡ Err (BadRow tables.StopTimes 2 UnknownTrip)
unfolding bare number_of is_utf8 chars encode
unknown_trip = refl

short_row : stop_times_of trips stops (header ∷ (codes "a" ∷ codes "T" ∷ []) ∷ []) ≡ Err (BadRow tables.StopTimes 2 WrongFields)
unfolding bare number_of is_utf8 chars encode
short_row = refl

no_header : stop_times_of trips stops [] ≡ Err (BadRow tables.StopTimes 1 MissingColumn)
no_header = refl

abbrev shape_header : Row
shape_header = codes "shape_id" ∷ codes "shape_pt_lat" ∷ codes "shape_pt_lon" ∷ codes "shape_pt_sequence" ∷ []

abbrev point : List ℕ → List ℕ → List ℕ → Row
point id lon sequence = id ∷ codes "1" ∷ lon ∷ sequence ∷ []

-- a shape that a selected trip names, by rising sequence; one that none names is not read
named_shape : shapes_of trips (shape_header ∷ point (codes "s") (codes "2") (codes "7") ∷ point (codes "o") (codes "far") (codes "1") ∷ point (codes "s") (codes "3") (codes "5") ∷ [])
    ≡ Ok (record { shapes = record { points = (pos 1000000, pos 3000000) ∷ (pos 1000000, pos 2000000) ∷ [] } ∷ []; of_trips = Some 0 ∷ None ∷ [] })
unfolding bare number_of degrees_of is_utf8 chars encode
named_shape = refl

-- a shape of one point is not kept
one_point : shapes_of trips (shape_header ∷ point (codes "s") (codes "2") (codes "7") ∷ []) ≡ Ok (record { shapes = []; of_trips = None ∷ None ∷ [] })
unfolding bare number_of degrees_of is_utf8 chars encode
one_point = refl
