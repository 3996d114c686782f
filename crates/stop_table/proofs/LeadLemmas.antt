-- The stations to which rows of `stops.txt` lead.
use Rattle.std.proofs.Common.{◌≡◌, ◌≤◌, ◌<◌, ◌+◌, ℕ, Bool, true, false, List, [], ◌∷◌, Option, Some, None, Ok, refl, ap, sym, ◌∙◌, arith, filter, take, drop, length, pos, unwrap_or, cond}
use Rattle.std.specs.List.{filter_map, cons_option}
use Rattle.std.proofs.lemmas.List.{length-map, length-drop, length-take}
use Rattle.transit_feed.specs.declared.station.Station.{Station}
use Rattle.table_rows.specs.declared.why.Table.TheVariants.{Stops}
use Rattle.table_rows.specs.Cells.{Row, rows_before, field_in, ids_in}
use Rattle.table_rows.specs.Reasons.{first_bad, unless_bad}
use Rattle.table_rows.proofs.FirstLemmas.{filter-few}
use Rattle.stop_table.specs.declared.stop_columns.StopColumns.{StopColumns}
use Rattle.stop_table.specs.declared.known.KnownStops.{KnownStops}
use Rattle.stop_table.specs.declared.known.FeedStops.{FeedStops}
use Rattle.stop_table.specs.Stops.{stop_columns, type_in, is_own_station, station_of, stations_of, stops_reason, latitude_in, longitude_in}
use Rattle.stop_table.specs.Leads.{station_ids, known_stops, feed_stops}

-- whether a row is a station
abbrev pub is_station_row : StopColumns → Row → Bool
is_station_row c row = is_own_station (type_in c row) (field_in row c.parent)

-- the ids of the stations that rows give
ids-rows : (c : StopColumns) (rows : List Row) → station_ids (filter_map (station_of c) rows) ≡ ids_in c.id (filter (is_station_row c) rows)
ids-rows c [] = refl
ids-rows c (row ∷ rows) =
    let station : Station = record { id = field_in row c.id; name = field_in row c.name; lat = unwrap_or (latitude_in c row) (pos 0); lon = unwrap_or (longitude_in c row) (pos 0) } in
    by station refl (is_station_row c row) (ids-rows c rows)
  where
    by : (station : Station) → station.id ≡ field_in row c.id → (b : Bool) → station_ids (filter_map (station_of c) rows) ≡ ids_in c.id (filter (is_station_row c) rows)
        → station_ids (cons_option (cond b (Some station) None) (filter_map (station_of c) rows)) ≡ ids_in c.id (cond b (row ∷ filter (is_station_row c) rows) (filter (is_station_row c) rows))
    by station same true rest = ap (λ ids. station.id ∷ ids) rest ∙ ap (λ id. id ∷ ids_in c.id (filter (is_station_row c) rows)) same
    by station same false rest = rest

pub station_ids-rows : (rows : List Row) → station_ids (stations_of rows) ≡ ids_in (stop_columns rows).id (filter (is_station_row (stop_columns rows)) (drop 1 rows))
station_ids-rows rows = ids-rows (stop_columns rows) (drop 1 rows)

before-few : (place : ℕ) (rows : List Row) → length (rows_before place rows) ≤ length rows
before-few place rows = omega (arith, length-drop 1 (take place rows), length-take place rows)

-- there are no more stations than rows
pub ids_of_stations-few : (c : StopColumns) (rows : List Row) (place : ℕ) (ids : List (List ℕ))
    → ids ≡ ids_in c.id (filter (is_station_row c) (rows_before place rows)) → length ids ≤ length rows
ids_of_stations-few c rows place ids same =
    let all = ap length same in
    let given = length-map (filter (is_station_row c) (rows_before place rows)) (λ row. field_in row c.id) in
    let kept = filter-few (is_station_row c) (rows_before place rows) in
    let before = before-few place rows in
    omega (arith, all, given, kept, before)

-- the stops of a table without a bad row
pub feed_stops_good : (rows : List Row) (stations : List Station) (known : KnownStops) → first_bad (stops_reason rows) rows ≡ None
    → stations ≡ stations_of rows → known ≡ known_stops rows → feed_stops rows ≡ Ok (record { stations = stations; known = known })
feed_stops_good rows stations known good same_stations same_known =
    ap (λ bad. unless_bad Stops bad (make (stations_of rows) (known_stops rows))) good
    ∙ ap (λ stations. Ok (make stations (known_stops rows))) (sym same_stations)
    ∙ ap (λ known. Ok (make stations known)) (sym same_known)
  where
    make : List Station → KnownStops → FeedStops
    make stations known = record { stations = stations; known = known }

-- the place of an id is that of a row, once the header is counted
pub place_behind : (column : Option ℕ) (rows : List Row) (ids : List (List ℕ)) (place : ℕ) → ids ≡ ids_in column (drop 1 rows) → place < length ids → place + 1 < length rows
place_behind column rows ids place same within =
    let all = ap length same in
    let given = length-map (drop 1 rows) (λ row. field_in row column) in
    let behind = length-drop 1 rows in
    omega (arith, all, given, behind, within)
