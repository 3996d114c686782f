-- Worked examples of whole folders, which the definitions have to give.
use Rattle.std.proofs.Common.{◌≡◌, ℕ, pos, false, List, [], ◌∷◌, Option, Some, None, Ok, Err, refl, codes}
use Rattle.csv.proofs.OnLiterals.{csv_on_literals}
use Rattle.std.specs.Str.{is_utf8, chars}
use lib.Utf8.{encode}
use Rattle.transit_feed.specs.declared.shape.Shape.{Shape}
use Rattle.transit_feed.specs.Feeds.{Feed}
use Rattle.table_rows.specs.declared.why.Table.TheVariants as tables
use Rattle.table_rows.specs.declared.why.Why.TheVariants.{UnknownRoute}
use Rattle.table_rows.specs.declared.fault.FeedFault.TheVariants.{BadRow}
use Rattle.table_rows.specs.Values.{bare, number_of, degrees_of, colour_of, rows_of}
use Rattle.gtfs_tables.specs.Feed.{Folder, feed_outcome}

-- Route A of type 1 and route B of type 3, each with a trip: nothing is wrong with values that only B needs.
abbrev folder : Option (List ℕ) → List ℕ → List ℕ → Folder
folder shapes trips stop_times tables.Routes = Some (codes "route_id,route_type,route_color\nA,1,\nB,3,no colour\n")
folder shapes trips stop_times tables.Stops =
    Some (codes "stop_id,stop_name,stop_lat,stop_lon\nX,X,0,0\nY,Y,0,0.010000\n")
folder shapes trips stop_times tables.Trips = Some trips
folder shapes trips stop_times tables.Shapes = shapes
folder shapes trips stop_times tables.StopTimes = Some stop_times

abbrev shapes : List ℕ
shapes = codes "shape_id,shape_pt_lat,shape_pt_lon,shape_pt_sequence\nS,0,0,2\nT,a,b,c\nS,1,0,1\n"

abbrev trips : List ℕ
trips = codes "route_id,service_id,trip_id,shape_id\nA,,A1,S\nB,,B1,T\n"

abbrev stop_times : List ℕ
stop_times = codes "trip_id,stop_id,stop_sequence\nA1,X,1\nB1,,\nA1,,1\nB1,Q,x\nA1,Y,2\n"

-- a line from X to Y with these shapes, of which it takes this one
abbrev from_x_to_y : List Shape → Option ℕ → Feed
from_x_to_y kept shape = record {
  stations = record { id = codes "X"; name = codes "X"; lat = pos 0; lon = pos 0 }
      ∷ record { id = codes "Y"; name = codes "Y"; lat = pos 0; lon = pos 10000 } ∷ [];
  lines = record { id = codes "A"; name = codes "A"; colour = 230 ∷ 25 ∷ 75 ∷ []; hidden = false } ∷ [];
  patterns = record { line = record { 0 = 0 }; stops = record { 0 = 0 } ∷ record { 0 = 1 } ∷ []; shape = shape } ∷ [];
  shapes = kept;
}

whole : feed_outcome (1 ∷ []) (folder (Some shapes) trips stop_times)
    ≡ Ok (from_x_to_y (record { points = (pos 1000000, pos 0) ∷ (pos 0, pos 0) ∷ [] } ∷ []) (Some 0))
unfolding csv_on_literals rows_of bare number_of degrees_of colour_of is_utf8 chars encode
whole = refl

-- a feed needs no shapes
no_shapes : feed_outcome (1 ∷ []) (folder None trips stop_times) ≡ Ok (from_x_to_y [] None)
unfolding csv_on_literals rows_of bare number_of degrees_of colour_of is_utf8 chars encode
no_shapes = refl

-- of two bad tables the first one counts
first_bad_table : feed_outcome (1 ∷ []) (folder (Some shapes) (codes "trip_id,route_id\nA1,A\nA2,Q\n") (codes "trip_id\n"))
    ≡ Err (BadRow tables.Trips 3 UnknownRoute)
unfolding csv_on_literals rows_of bare number_of degrees_of colour_of is_utf8 chars encode
first_bad_table = refl
