-- What `stop_times.txt` without a bad row keeps.
use Rattle.std.proofs.Common.{◌≡◌, ◌<◌, ◌≤◌, ◌^◌, ◌⊎◌, inl, inr, ℕ, suc, Bool, true, false, not, ◌&&◌, List, [], ◌∷◌, Option, Some, None, Ok, All, is_none, unwrap_or, option_and_then, drop, length, get_or, bytes_eq, refl, ap, sym, ◌∙◌, subst, arith, true≢false, option_map, IfSome, Vec}
use Rattle.std.specs.declared.alloc.Global.{Global}
use Rattle.std.proofs.lemmas.Bool.{cases_lt}
use Rattle.std.proofs.lemmas.List.{length-map, length-drop, get_or_past, get_or_default}
use Rattle.std.proofs.lemmas.List.Elements.{All-map, All-filter, filter_passes}
use Rattle.map_base.specs.declared.ids.StationId.{StationId}
use Rattle.transit_feed.specs.Feeds.{AreFew}
use Rattle.table_rows.specs.declared.why.Why.{Why}
use Rattle.table_rows.specs.declared.why.Why.TheVariants.{WrongFields, NotUtf8, BadWhole, UnknownTrip, UnknownStop, RepeatedSequence}
use Rattle.table_rows.specs.declared.why.Table.TheVariants.{StopTimes}
use Rattle.table_rows.specs.Ids.{is_among, place_among}
use Rattle.table_rows.specs.Cells.{Row, row_at, field_in, ends_early, is_text}
use Rattle.table_rows.specs.Values.{rows_of}
use Rattle.table_rows.specs.Reasons.{first_met, first_bad}
use Rattle.table_rows.proofs.ReasonLemmas.{first_met-none, first_bad-at}
use Rattle.stop_table.specs.declared.known.KnownStops.{KnownStops}
use Rattle.route_tables.specs.declared.known.KnownTrips.{KnownTrips}
use Rattle.gtfs_tables.specs.Good.{IsBelow, AreServed}
use Rattle.stop_table.specs.Leads.{station_of_id}
use Rattle.ordered_entries.specs.Rising.{by_rising}
use Rattle.sequence_tables.specs.StopTimes.{stop_time_columns, required_columns, is_read, sequence_in, station_in, is_repeated, stop_times_reason, rows_of_trip, station_at, stations_of_trip, trip_stations, stop_times_of, stop_times_of_file}
use Rattle.table_rows.proofs.FirstLemmas.{filter-few}
use Rattle.ordered_entries.proofs.RisingLists.{length-by_rising, all-by_rising}
use Rattle.gtfs_tables.proofs.GoodRoutes.{unless_bad-ok, all_of_map, few_behind}

-- a test that is met where another is not
both_false : (a b : Bool) → (a && b) ≡ false → a ≡ true → b ≡ false
both_false true b none here = none
both_false false b none here = absurd (true≢false (sym here))

-- a row that is not bad leads to a station, where it is read in full
fifth : (a b read c d none : Bool) (v w x y z : Why) (others : List (Bool × Why))
    → first_met ((a, v) ∷ (b, w) ∷ (c, x) ∷ (d, y) ∷ (read && none, z) ∷ others) ≡ None → read ≡ true → none ≡ false
fifth a b read c d none v w x y z others good here =
    let first = first_met-none a v ((b, w) ∷ (c, x) ∷ (d, y) ∷ (read && none, z) ∷ others) good in
    let second = first_met-none b w ((c, x) ∷ (d, y) ∷ (read && none, z) ∷ others) first.1 in
    let third = first_met-none c x ((d, y) ∷ (read && none, z) ∷ others) second.1 in
    let fourth = first_met-none d y ((read && none, z) ∷ others) third.1 in
    both_false read none (first_met-none (read && none) z others fourth.1).0 here

-- the station of an id is below the count
station_below : (count : ℕ) (stops : KnownStops) (id : List ℕ) → All (IsBelow count) stops.stations → IsBelow count (station_of_id stops id)
station_below count stops id led = by (place_among stops.ids id)
  where
    at : (place : ℕ) → (place < length stops.stations) ⊎ (length stops.stations ≤ place) → IsBelow count (get_or stops.stations place None)
    at place (inl l) = led place None l
    at place (inr l) = subst (IsBelow count) (sym (get_or_past stops.stations place None l)) tt

    by : (found : Option ℕ) → IsBelow count (option_and_then (λ place. get_or stops.stations place None) found)
    by None = tt
    by (Some place) = at place (cases_lt place (length stops.stations))

-- a station that is there, or another
given_below : (count : ℕ) (station : Option ℕ) → is_none station ≡ false → IsBelow count station → unwrap_or station 0 < count
given_below count None there below = absurd (true≢false there)
given_below count (Some n) there below = below

module _ (count : ℕ) (trips : KnownTrips) (stops : KnownStops) (led : All (IsBelow count) stops.stations) (rows : List Row) (few : length rows ≤ 2 ^ 32)
    (good : first_bad (stop_times_reason trips stops rows) rows ≡ None) where
  row_below : (n : ℕ) → suc n < length rows → is_read trips (stop_time_columns rows) (row_at rows (suc n)) ≡ true
      → (station_at stops (stop_time_columns rows) (row_at rows (suc n))).0 < count
  row_below n within read =
      let c = stop_time_columns rows in
      let row = row_at rows (suc n) in
      given_below count (station_in stops c row)
      (fifth (ends_early row (required_columns c)) (not (is_text row)) (is_read trips c row)
      (is_read trips c row && is_none (sequence_in c row)) (not (is_among (field_in row c.trip) trips.ids)) (is_none (station_in stops c row))
      WrongFields NotUtf8 BadWhole UnknownTrip UnknownStop
      ((is_read trips c row && is_repeated trips c rows (suc n), RepeatedSequence) ∷ [])
      (first_bad-at (stop_times_reason trips stops rows) rows (suc n) within good) read)
      (station_below count stops (field_in row c.stop) led)

  rows_below : All (λ (row : Row). is_read trips (stop_time_columns rows) row ≡ true → (station_at stops (stop_time_columns rows) row).0 < count) (drop 1 rows)
  rows_below k d l = by rows refl
    where
      P : Row → Type 0
      P = λ row. is_read trips (stop_time_columns rows) row ≡ true → (station_at stops (stop_time_columns rows) row).0 < count

      by : (all : List Row) → rows ≡ all → P (get_or (drop 1 rows) k d)
      by [] e = absurd (omega (arith, l, ap length e, length-drop 1 rows))
      by (header ∷ behind) e =
          let within : suc k < length rows = omega (arith, l, length-drop 1 rows) in
          let shorter : k < length behind = omega (arith, within, ap length e) in
          let same : get_or (drop 1 rows) k d ≡ row_at rows (suc k) =
          ap (λ r. get_or (drop 1 r) k d) e ∙ get_or_default behind k d [] shorter ∙ sym (ap (λ r. row_at r (suc k)) e) in
          subst P (sym same) (row_below k within)

  trip_below : (trip : List ℕ) → All (λ (station : StationId). station.0 < count) (stations_of_trip trips stops (stop_time_columns rows) rows trip)
  trip_below trip =
      let c = stop_time_columns rows in
      let test = λ (row : Row). is_read trips c row && bytes_eq trip (field_in row c.trip) in
      let of_trip = rows_of_trip trips c rows trip in
      let all : All (λ (row : Row). (station_at stops c row).0 < count) of_trip =
      λ k d l. All-filter test (λ (row : Row). is_read trips c row ≡ true → (station_at stops c row).0 < count) (drop 1 rows) rows_below k d l
      (first_true (is_read trips c (get_or of_trip k d)) (bytes_eq trip (field_in (get_or of_trip k d) c.trip)) (filter_passes test (drop 1 rows) k d l)) in
      All-map (λ (station : StationId). station.0 < count) (station_at stops c) (by_rising (λ row. unwrap_or (sequence_in c row) 0) of_trip)
      (all-by_rising (λ row. unwrap_or (sequence_in c row) 0) (λ (row : Row). (station_at stops c row).0 < count) of_trip all)
    where
      first_true : (a b : Bool) → (a && b) ≡ true → a ≡ true
      first_true true b both = refl
      first_true false b both = both

  trip_few : (trip : List ℕ) → AreFew (stations_of_trip trips stops (stop_time_columns rows) rows trip)
  trip_few trip =
      let c = stop_time_columns rows in
      let number = λ (row : Row). unwrap_or (sequence_in c row) 0 in
      let of_trip = rows_of_trip trips c rows trip in
      let given = length-map (by_rising number of_trip) (station_at stops c) in
      let counted = length-by_rising number of_trip in
      let kept = filter-few (λ (row : Row). is_read trips c row && bytes_eq trip (field_in row c.trip)) (drop 1 rows) in
      let behind = few_behind rows few in
      omega (arith, given, counted, kept, behind)

  good_known : AreServed count trips (trip_stations trips stops rows)
  good_known = record {
    as_many = length-map trips.ids (stations_of_trip trips stops (stop_time_columns rows) rows);
    few = all_of_map (λ (served : List StationId). AreFew served) (stations_of_trip trips stops (stop_time_columns rows) rows) trips.ids trip_few;
    below = all_of_map (λ (served : List StationId). All (λ (station : StationId). station.0 < count) served) (stations_of_trip trips stops (stop_time_columns rows) rows) trips.ids trip_below;
  }

pub good_stations : (count : ℕ) (trips : KnownTrips) (stops : KnownStops) (rows : List Row) (stations : List (List StationId))
    → All (IsBelow count) stops.stations → length rows ≤ 2 ^ 32 → stop_times_of trips stops rows ≡ Ok stations → AreServed count trips stations
good_stations count trips stops rows stations led few is =
    let both = unless_bad-ok StopTimes (first_bad (stop_times_reason trips stops rows) rows) (trip_stations trips stops rows) stations is in
    subst (AreServed count trips) both.1 (good_known count trips stops led rows few both.0)

-- the same of the table's file
pub good_stations_of_file : (count : ℕ) (trips : KnownTrips) (stops : KnownStops) (bytes : Option (Vec ℕ Global)) (stations : List (List StationId))
    → All (IsBelow count) stops.stations → IfSome bytes (λ v. length (rows_of v.items) ≤ 2 ^ 32)
    → stop_times_of_file trips stops (option_map {T = Vec ℕ Global} {U = List ℕ} (λ v. v.items) bytes) ≡ Ok stations → AreServed count trips stations
good_stations_of_file count trips stops None stations led few is = cc
good_stations_of_file count trips stops (Some v) stations led few is = good_stations count trips stops (rows_of v.items) stations led few is
