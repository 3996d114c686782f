-- The stations of each trip, gathered by the trips' numbers.
use Rattle.std.proofs.Common.{◌≡◌, ℕ, zero, suc, ◌+◌, ◌<◌, ◌≤◌, ◌==◌, ◌&&◌, Bool, true, false, cond, eqb, List, [], ◌∷◌, ◌++◌, length, get_or, map, filter, take, drop, bytes_eq, Some, unwrap_or, refl, sym, ◌∙◌, ap, arith, true≢false}
use Rattle.std.proofs.lemmas.Bool.Decides.{nat_tests}
use Rattle.std.proofs.lemmas.List.{take_more, take_all, map-append}
use Rattle.map_base.specs.declared.ids.StationId.{StationId}
use Rattle.ordered_entries.specs.declared.entry.Entry.{Entry}
use Rattle.ordered_entries.proofs.Values.{values_in_order}
use Rattle.table_rows.specs.Cells.{Row, field_in}
use Rattle.sequence_tables.specs.declared.stop_time_columns.StopTimeColumns.{StopTimeColumns}
use Rattle.stop_table.specs.declared.known.KnownStops.{KnownStops}
use Rattle.route_tables.specs.declared.known.KnownTrips.{KnownTrips}
use Rattle.ordered_entries.specs.Rising.{by_rising}
use Rattle.sequence_tables.specs.StopTimes.{stop_time_columns, is_read, sequence_in, station_at, stations_of_trip, trip_stations}
use Rattle.sequence_tables.specs.StopTimeReads.{entry_in, AreNumbered}
use Rattle.sequence_tables.specs.StationsOfTrips.{stations_of_key, stations_by_key}
use Rattle.route_tables.specs.Trips.{trip_place}
use Rattle.sequence_tables.proofs.PlaceLemmas.{same_bytes, bytes_same, placed_among}
use Rattle.sequence_tables.proofs.StopTimeLemmas.{read_place}

-- a filter after another
pub filter_both : {A : Type 0} (p q r : A → Bool) (xs : List A) → ((x : A) → p x ≡ true → q x ≡ r x) → filter q (filter p xs) ≡ filter (λ x. p x && r x) xs
filter_both p q r [] same = refl
filter_both p q r (x ∷ xs) same = by (p x) refl (filter_both p q r xs same)
  where
    by : (b : Bool) → p x ≡ b → filter q (filter p xs) ≡ filter (λ x. p x && r x) xs
        → filter q (cond b (x ∷ filter p xs) (filter p xs)) ≡ cond (b && r x) (x ∷ filter (λ x. p x && r x) xs) (filter (λ x. p x && r x) xs)
    by true e rest = ap (λ b. cond b (x ∷ filter q (filter p xs)) (filter q (filter p xs))) (same x e) ∙ ap (λ zs. cond (r x) (x ∷ zs) zs) rest
    by false e rest = rest

module _ (trips : KnownTrips) (stops : KnownStops) (numbered : AreNumbered trips) (c : StopTimeColumns) where
  -- the number of a row's trip is that of an id exactly where it has this id
  key_is : (k : ℕ) → k < length trips.ids → (row : Row) → is_read trips c row ≡ true → ((entry_in trips c row).key == k) ≡ bytes_eq (get_or trips.ids k []) (field_in row c.trip)
  key_is k l row read =
      let place = read_place trips stops c row read in
      ap (λ p. eqb (unwrap_or p 0) k) place.1 ∙ by place.0 place.1 (bytes_eq (get_or trips.ids k []) (field_in row c.trip)) refl
    where
      some_is : (x y : ℕ) → Some x ≡ Some y → x ≡ y
      some_is x y e = cc

      equal : (a b : ℕ) → a ≡ b → eqb a b ≡ true
      equal a b e = grind (arith, nat_tests)

      same : (a b : ℕ) → eqb a b ≡ true → a ≡ b
      same a b e = grind (arith, nat_tests)

      apart : (a : ℕ) → trip_place trips (field_in row c.trip) ≡ Some a → bytes_eq (get_or trips.ids k []) (field_in row c.trip) ≡ false → (b : Bool) → eqb a k ≡ b → b ≡ false
      apart a e not_same true is =
          let there = (placed_among trips.ids (field_in row c.trip) a e).1 in
          absurd (true≢false (sym (bytes_same (get_or trips.ids k []) (field_in row c.trip) (sym (there ∙ ap (λ (n : ℕ). get_or trips.ids n []) (same a k is)))) ∙ not_same))
      apart a e not_same false is = refl

      by : (a : ℕ) → trip_place trips (field_in row c.trip) ≡ Some a → (b : Bool) → bytes_eq (get_or trips.ids k []) (field_in row c.trip) ≡ b → eqb a k ≡ b
      by a e true is =
          let id : get_or trips.ids k [] ≡ field_in row c.trip = same_bytes (get_or trips.ids k []) (field_in row c.trip) is in
          equal a k (some_is a k (sym e ∙ ap (trip_place trips) (sym id) ∙ numbered.apart.once k l))
      by a e false is = apart a e is (eqb a k) refl

  key_stations : (rows : List Row) (k : ℕ) → k < length trips.ids
      → stations_of_key (map (station_at stops c) (filter (is_read trips c) (drop 1 rows))) (map (entry_in trips c) (filter (is_read trips c) (drop 1 rows))) k
      ≡ stations_of_trip trips stops c rows (get_or trips.ids k [])
  key_stations rows k l =
      values_in_order (entry_in trips c) (station_at stops c) (record { 0 = 0 }) (filter (is_read trips c) (drop 1 rows)) k
      ∙ ap (λ read. map (station_at stops c) (by_rising (λ row. unwrap_or (sequence_in c row) 0) read))
      (filter_both (is_read trips c) (λ row. (entry_in trips c row).key == k) (λ row. bytes_eq (get_or trips.ids k []) (field_in row c.trip)) (drop 1 rows) (key_is k l))

  first_stations : (rows : List Row) (n : ℕ) → n ≤ length trips.ids
      → stations_by_key (map (station_at stops c) (filter (is_read trips c) (drop 1 rows))) (map (entry_in trips c) (filter (is_read trips c) (drop 1 rows))) n
      ≡ map (stations_of_trip trips stops c rows) (take n trips.ids)
  first_stations rows zero l = refl
  first_stations rows (suc n) l =
      let next : n + 1 ≡ suc n = omega arith in
      ap (λ front. front ++ stations_of_key (map (station_at stops c) (filter (is_read trips c) (drop 1 rows))) (map (entry_in trips c) (filter (is_read trips c) (drop 1 rows))) n ∷ [])
      (first_stations rows n (omega (arith, l)))
      ∙ ap (λ last. map (stations_of_trip trips stops c rows) (take n trips.ids) ++ last ∷ []) (key_stations rows n (omega (arith, l)))
      ∙ sym (map-append (stations_of_trip trips stops c rows) (take n trips.ids) (get_or trips.ids n [] ∷ []))
      ∙ ap (map (stations_of_trip trips stops c rows)) (sym (take_more trips.ids n [] (omega (arith, l))) ∙ ap (λ (m : ℕ). take m trips.ids) next)

-- the stations of all trips
pub all_stations : (trips : KnownTrips) (stops : KnownStops) (rows : List Row) (stations : List StationId) (entries : List Entry) (count : ℕ) → AreNumbered trips
    → stations ≡ map (station_at stops (stop_time_columns rows)) (filter (is_read trips (stop_time_columns rows)) (drop 1 rows))
    → entries ≡ map (entry_in trips (stop_time_columns rows)) (filter (is_read trips (stop_time_columns rows)) (drop 1 rows)) → count ≡ length trips.lines
    → stations_by_key stations entries count ≡ trip_stations trips stops rows
all_stations trips stops rows stations entries count numbered stations_are entries_are counted =
    let all : count ≡ length trips.ids = counted ∙ numbered.lines in
    ap (λ s. stations_by_key s entries count) stations_are
    ∙ ap (λ e. stations_by_key (map (station_at stops (stop_time_columns rows)) (filter (is_read trips (stop_time_columns rows)) (drop 1 rows))) e count) entries_are
    ∙ ap (stations_by_key (map (station_at stops (stop_time_columns rows)) (filter (is_read trips (stop_time_columns rows)) (drop 1 rows)))
    (map (entry_in trips (stop_time_columns rows)) (filter (is_read trips (stop_time_columns rows)) (drop 1 rows)))) all
    ∙ first_stations trips stops numbered (stop_time_columns rows) rows (length trips.ids) (omega arith)
    ∙ ap (map (stations_of_trip trips stops (stop_time_columns rows) rows)) (take_all (length trips.ids) trips.ids (omega arith))
