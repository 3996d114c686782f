-- What `stops.txt` without a bad row keeps.
use Rattle.std.proofs.Common.{◌≡◌, ◌≤◌, ◌^◌, ℕ, List, Option, Some, None, Ok, filter, drop, length, bytes_eq, option_and_then, ap, sym, subst, arith}
use Rattle.std.specs.List.{IsDistinct}
use Rattle.std.proofs.lemmas.List.{length-map}
use Rattle.transit_feed.specs.declared.station.Station.{Station}
use Rattle.table_rows.specs.declared.why.Table.TheVariants.{Stops}
use Rattle.table_rows.specs.Ids.{place_among}
use Rattle.table_rows.specs.Cells.{Row, field_in}
use Rattle.table_rows.specs.Reasons.{first_bad}
use Rattle.table_rows.proofs.DistinctIds.{distinct_ids}
use Rattle.stop_table.specs.declared.known.FeedStops.{FeedStops}
use Rattle.gtfs_tables.specs.Good.{IsBelow, AreGoodStops}
use Rattle.stop_table.specs.Stops.{stop_columns, stations_of, stops_reason}
use Rattle.stop_table.specs.Leads.{station_ids, station_led, lead_in, known_stops, feed_stops}
use Rattle.stop_table.proofs.StopLemmas.{stops_new}
use Rattle.stop_table.proofs.LeadLemmas.{is_station_row, station_ids-rows}
use Rattle.table_rows.proofs.FirstLemmas.{filter-few}
use Rattle.stop_table.proofs.PlacedLemmas.{stations-placed}
use Rattle.gtfs_tables.proofs.GoodRoutes.{unless_bad-ok, all_of_map, is_below-place, few_behind}

-- a row leads to a station of the table, or to none
led_below : (stations : List Station) (lead : Option (List ℕ)) → IsBelow (length stations) (option_and_then (place_among (station_ids stations)) lead)
led_below stations None = tt
led_below stations (Some id) =
    subst (λ n. IsBelow n (place_among (station_ids stations) id)) (length-map stations (λ (station : Station). station.id)) (is_below-place (station_ids stations) id)

good_known : (rows : List Row) → length rows ≤ 2 ^ 32 → first_bad (stops_reason rows) rows ≡ None → AreGoodStops (record { stations = stations_of rows; known = known_stops rows })
good_known rows few good =
    let c = stop_columns rows in
    let ids = ap length (station_ids-rows rows) in
    let named = length-map (stations_of rows) (λ (station : Station). station.id) in
    let given = length-map (filter (is_station_row c) (drop 1 rows)) (λ row. field_in row c.id) in
    let kept = filter-few (is_station_row c) (drop 1 rows) in
    let behind = few_behind rows few in
    record {
      few = omega (arith, ids, named, given, kept, behind);
      placed = stations-placed c (drop 1 rows);
      distinct = subst (IsDistinct bytes_eq) (sym (station_ids-rows rows)) (distinct_ids c.id (is_station_row c) rows (stops_new rows good));
      led = all_of_map (IsBelow (length (stations_of rows))) (station_led c rows) (drop 1 rows) (λ row. led_below (stations_of rows) (lead_in c rows row));
    }

pub good_stops : (rows : List Row) (stops : FeedStops) → length rows ≤ 2 ^ 32 → feed_stops rows ≡ Ok stops → AreGoodStops stops
good_stops rows stops few is =
    let both = unless_bad-ok Stops (first_bad (stops_reason rows) rows) (record { stations = stations_of rows; known = known_stops rows }) stops is in
    subst AreGoodStops both.1 (good_known rows few both.0)
