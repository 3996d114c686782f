-- Worked examples of `stops.txt`, which the definitions have to give.
use Rattle.std.proofs.Common.{◌≡◌, ℕ, pos, neg_ℤ, List, [], ◌∷◌, ◌++◌, Result, Ok, Err, None, Some, map, refl, codes}
use Rattle.csv.proofs.OnLiterals.{csv_on_literals}
use Rattle.table_rows.specs.declared.why.Table.TheVariants.{Stops}
use Rattle.table_rows.specs.declared.why.Why.{Why}
use Rattle.table_rows.specs.declared.why.Why.TheVariants.{MissingFile, MissingColumn, WrongFields, NotUtf8, EmptyId, RepeatedId, BadLatitude, BadLongitude, BadType, UnknownParent}
use Rattle.table_rows.specs.declared.fault.FeedFault.{FeedFault}
use Rattle.table_rows.specs.declared.fault.FeedFault.TheVariants.{BadRow}
use Rattle.transit_feed.specs.declared.station.Station.{Station}
use Rattle.table_rows.specs.Cells.{Row}
use Rattle.stop_table.specs.Stops.{stops_of, stops_outcome}
use Rattle.table_rows.specs.Values.{bare, number_of, degrees_of, rows_of}
use Rattle.std.specs.Str.{is_utf8, chars}
use lib.Utf8.{encode}

abbrev header : Row
header = codes "stop_id" ∷ codes " stop_lat" ∷ codes "stop_lon" ∷ codes "location_type" ∷ codes "parent_station" ∷ codes "stop_id" ∷ []

-- a station, its platform, and a boarding area of this platform
abbrev family : List ℕ → List Row
family kind =
    header
    ∷ (codes "P" ∷ codes "1" ∷ codes "1" ∷ codes "" ∷ codes "S" ∷ [])
    ∷ (codes "B" ∷ codes "" ∷ codes "" ∷ codes "4" ∷ codes "P" ∷ [])
    ∷ (codes "S" ∷ codes "1e-1" ∷ codes "0" ∷ kind ∷ [])
    ∷ []

-- the station alone is one
station_alone : stops_of (family (codes "1")) ≡ Ok (record { id = codes "S"; name = []; lat = pos 100000; lon = pos 0 } ∷ [])
unfolding bare number_of degrees_of is_utf8 chars encode
station_alone = refl

-- a generic node is no parent of a platform, wherever it stands
no_parent : stops_of (family (codes "3")) ≡ Err (BadRow Stops 2 UnknownParent)
unfolding bare number_of degrees_of is_utf8 chars encode
no_parent = refl

bad_degrees : stops_of ((codes "stop_id" ∷ codes "stop_lat" ∷ codes "stop_lon" ∷ []) ∷ (codes "X" ∷ codes "9e" ∷ codes "0" ∷ []) ∷ []) ≡ Err (BadRow Stops 2 BadLatitude)
unfolding bare number_of degrees_of is_utf8 chars encode
bad_degrees = refl

no_header : stops_of [] ≡ Err (BadRow Stops 1 MissingColumn)
no_header = refl

no_file : stops_outcome None ≡ Err (BadRow Stops 0 MissingFile)
no_file = refl

-- Files, with the first bad row of each and the least reason why.
abbrev told : List ℕ → Result (List Station) FeedFault
told file = stops_outcome (Some file)

abbrev bad : ℕ → Why → Result (List Station) FeedFault
bad row why = Err (BadRow Stops row why)

-- three columns, and rows below them
abbrev three : List ℕ → List ℕ
three rows = codes "stop_id,stop_lat,stop_lon\n" ++ rows

-- the two columns more
abbrev five : List ℕ → List ℕ
five rows = codes "stop_id,stop_lat,stop_lon,location_type,parent_station\n" ++ rows

bad_headers : map told ([] ∷ codes "stop_id,stop_lat\nX,0\n" ∷ (codes "stop_id,stop_lat," ++ 0xFF ∷ codes "\nX,0\n")
    ∷ (codes "stop_id,stop_lat,stop_lon," ++ 0xFF ∷ codes "\n,0\n") ∷ [])
    ≡ bad 1 MissingColumn ∷ bad 1 MissingColumn ∷ bad 1 MissingColumn ∷ bad 1 NotUtf8 ∷ []
unfolding csv_on_literals rows_of bare number_of degrees_of is_utf8 chars encode
bad_headers = refl

bad_fields : map told (three (codes "X,0\n") ∷ three (0xFF ∷ codes ",0\n") ∷ three (codes "X,0,0," ++ 0xFF
    ∷ codes "\n") ∷ three (codes ",0,0," ++ 0xFF ∷ codes "\n") ∷ [])
    ≡ bad 2 WrongFields ∷ bad 2 WrongFields ∷ bad 2 NotUtf8 ∷ bad 2 NotUtf8 ∷ []
unfolding csv_on_literals rows_of bare number_of degrees_of is_utf8 chars encode
bad_fields = refl

bad_ids : map told (three (codes "X,0,0\n,0,0\n") ∷ three (codes ",91,0\n") ∷ three (codes "X,0,0\nY,0,0\nX,0,0\n")
    ∷ three (codes "X,0,0\nX,91,0\n") ∷ [])
    ≡ bad 3 EmptyId ∷ bad 2 EmptyId ∷ bad 4 RepeatedId ∷ bad 3 RepeatedId ∷ []
unfolding csv_on_literals rows_of bare number_of degrees_of is_utf8 chars encode
bad_ids = refl

bad_places : map told (three (codes "X,90.000001,0\n") ∷ three (codes "X,-91,-181\n")
    ∷ three (codes "X,0,180.000001\n") ∷ five (codes "X,0,181,,Q\n") ∷ three (codes "X,0,0\nY,0,999\nX,0,0\n") ∷ [])
    ≡ bad 2 BadLatitude ∷ bad 2 BadLatitude ∷ bad 2 BadLongitude ∷ bad 2 BadLongitude ∷ bad 3 BadLongitude ∷ []
unfolding csv_on_literals rows_of bare number_of degrees_of is_utf8 chars encode
bad_places = refl

bad_types : map told (codes "stop_id,stop_lat,stop_lon,location_type\nX,91,181,5\n" ∷ five (codes "X,0,0, \n")
    ∷ five (codes "X,0,0,7,Q\n") ∷ [])
    ≡ bad 2 BadType ∷ bad 2 BadType ∷ bad 2 BadType ∷ []
unfolding csv_on_literals rows_of bare number_of degrees_of is_utf8 chars encode
bad_types = refl

bad_parents : map told (five (codes "P,0,0,0,S\nS,0,0,,\n") ∷ five (codes "S,0,0,1,\nB,,,4,S\n")
    ∷ five (codes "S,0,0,3,\nP,1,1,,S\nB,,,4,P\n") ∷ [])
    ≡ bad 2 UnknownParent ∷ bad 3 UnknownParent ∷ bad 3 UnknownParent ∷ []
unfolding csv_on_literals rows_of bare number_of degrees_of is_utf8 chars encode
bad_parents = refl

-- stations in the order of rows, by columns in any order, and of two of one name the first
abbrev mixed : List ℕ
mixed =
    0xEF ∷ 0xBB ∷ 0xBF
    ∷ codes " stop_lat ,stop_lon,stop_id,stop_id,more,parent_station,location_type,stop_name\r\n\r\n 1e-1 ,-180,S,Q,,,1,\"Main, \"\"A\"\"\nB\"\r\n0,0,P,,,S\r\n,,B,,,P,4\r\n"
    ++ codes ",,E,,,Nowhere,2\r\n-90,+.5,X,,,,0,,," ++ 0xC3 ∷ 0xA4 ∷ codes "\r\n0,0,P2,,,L\r\n0,0,L,,,,1,L"

in_the_order_of_rows : told mixed ≡ Ok (
    record { id = codes "S"; name = codes "Main, \"A\"\nB"; lat = pos 100000; lon = neg_ℤ (pos 180000000) }
    ∷ record { id = codes "X"; name = []; lat = neg_ℤ (pos 90000000); lon = pos 500000 }
    ∷ record { id = codes "L"; name = codes "L"; lat = pos 0; lon = pos 0 } ∷ []
    )
unfolding csv_on_literals rows_of bare number_of degrees_of is_utf8 chars encode
in_the_order_of_rows = refl
