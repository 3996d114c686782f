-- Worked examples of `routes.txt` and `trips.txt`, which the definitions have to give.
use Rattle.std.proofs.Common.{◌≡◌, ℕ, List, [], ◌∷◌, false, Some, None, Ok, Err, refl, codes}
use Rattle.std.specs.Str.{is_utf8, chars}
use lib.Utf8.{encode}
use Rattle.table_rows.specs.declared.why.Table.TheVariants as tables
use Rattle.table_rows.specs.declared.why.Why.TheVariants.{RepeatedId, BadType, BadColour, UnknownRoute}
use Rattle.table_rows.specs.declared.fault.FeedFault.TheVariants.{BadRow}
use Rattle.table_rows.specs.Cells.{Row}
use Rattle.table_rows.specs.Values.{bare, number_of, colour_of}
use Rattle.route_tables.specs.declared.known.KnownRoutes.{KnownRoutes}
use Rattle.route_tables.specs.Routes.{lines_of, feed_routes, own_colour}
use Rattle.route_tables.specs.Trips.{trips_of}

abbrev header : Row
header = codes "route_id" ∷ codes "route_type" ∷ codes "route_short_name" ∷ codes "route_long_name" ∷ codes "route_color" ∷ []

-- lines of a selected type are numbered in order, and a line without a colour has that of its number
lines : lines_of (1 ∷ []) (header ∷ (codes "A" ∷ codes "1" ∷ codes "1" ∷ codes "One" ∷ codes "FF0000" ∷ []) ∷ (codes "B" ∷ codes "3" ∷ []) ∷ (codes "C" ∷ codes " 01" ∷ [] ∷ codes "Long" ∷ []) ∷ (codes "D" ∷ codes "1" ∷ []) ∷ [])
    ≡ record { id = codes "A"; name = codes "1"; colour = 255 ∷ 0 ∷ 0 ∷ []; hidden = false }
    ∷ record { id = codes "C"; name = codes "Long"; colour = 60 ∷ 180 ∷ 75 ∷ []; hidden = false }
    ∷ record { id = codes "D"; name = codes "D"; colour = 67 ∷ 99 ∷ 216 ∷ []; hidden = false }
    ∷ []
unfolding bare number_of colour_of
lines = refl

-- twelve colours come in turn
thirteenth : own_colour 12 ≡ own_colour 0
thirteenth = refl

-- a bad colour counts where the route is selected, and no other
bad_colour : feed_routes (1 ∷ []) (header ∷ (codes "B" ∷ codes "3" ∷ [] ∷ [] ∷ codes "red" ∷ []) ∷ (codes "A" ∷ codes "1" ∷ [] ∷ [] ∷ codes "red" ∷ []) ∷ []) ≡ Err (BadRow tables.Routes 3 BadColour)
unfolding bare number_of colour_of is_utf8 chars encode
bad_colour = refl

repeated_id : feed_routes (1 ∷ []) (header ∷ (codes "A" ∷ codes "1" ∷ []) ∷ (codes "A" ∷ codes "tram" ∷ []) ∷ []) ≡ Err (BadRow tables.Routes 3 RepeatedId)
unfolding bare number_of colour_of is_utf8 chars encode
repeated_id = refl

abbrev routes : KnownRoutes
routes = record { ids = codes "A" ∷ codes "B" ∷ []; line_ids = codes "B" ∷ [] }

abbrev trip_header : Row
trip_header = codes "route_id" ∷ codes "trip_id" ∷ codes "shape_id" ∷ []

-- a trip of a route that is not selected has no line and names no shape
trips : trips_of routes (trip_header ∷ (codes "A" ∷ codes "t" ∷ codes "s" ∷ []) ∷ (codes "B" ∷ codes "u" ∷ codes "s" ∷ []) ∷ [])
    ≡ Ok (record { ids = codes "t" ∷ codes "u" ∷ []; lines = None ∷ Some 0 ∷ []; shapes = [] ∷ codes "s" ∷ [] })
unfolding bare is_utf8 chars encode
trips = refl

unknown_route : trips_of routes (trip_header ∷ (codes "Z" ∷ codes "t" ∷ []) ∷ []) ≡ Err (BadRow tables.Trips 2 UnknownRoute)
unfolding bare is_utf8 chars encode
unknown_route = refl
