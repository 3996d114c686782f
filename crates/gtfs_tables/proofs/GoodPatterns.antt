-- The tables of a feed fit together.
use Rattle.std.proofs.Common.{◌≡◌, ◌≢◌, ◌<◌, ◌≤◌, ◌+◌, ℕ, suc, Bool, true, false, cond, List, [], ◌∷◌, Option, Some, None, All, length, bytes_eq, nat_eq, nat_le, refl, sym, subst, arith, if◌then◌else◌}
use Rattle.std.specs.List.{IsDistinct, cons_option, dedup_from}
use Rattle.std.proofs.lemmas.Bool.{leb-true}
use Rattle.std.proofs.lemmas.Bool.Decides.{nat_tests}
use Rattle.std.proofs.lemmas.List.Elements.{All-nil, All-cons, All-head, All-tail}
use Rattle.std.proofs.lemmas.List.Filters.{All-dedup}
use Rattle.map_base.specs.declared.ids.StationId.{StationId}
use Rattle.transit_feed.specs.declared.pattern.Pattern.{Pattern}
use Rattle.transit_feed.specs.Feeds.{Feed, IsFeed, IsPattern, AreApart, AreFew, NamesShape}
use Rattle.table_rows.proofs.FirstLemmas.{length-firsts, All-firsts}
use Rattle.route_tables.specs.declared.known.KnownTrips.{KnownTrips}
use Rattle.sequence_tables.specs.declared.known.KnownShapes.{KnownShapes}
use Rattle.route_tables.specs.declared.known.FeedRoutes.{FeedRoutes}
use Rattle.stop_table.specs.declared.known.FeedStops.{FeedStops}
use Rattle.gtfs_tables.specs.Good.{IsBelow, AreGoodRoutes, AreGoodStops, AreGoodTrips, AreGoodShapes, AreServed}
use Rattle.gtfs_tables.specs.Patterns.{is_same_station, apart, trip_pattern, trip_patterns, is_same_pattern}
use Rattle.gtfs_tables.specs.Feed.{feed_of}

-- what `dedup` leaves begins with its first element
dedup_head : (station : StationId) (rest : List StationId) → (others : List StationId) × (dedup_from is_same_station station rest ≡ station ∷ others)
dedup_head station [] = ([], refl)
dedup_head station (next ∷ rest) = by (is_same_station next station) (dedup_head station rest)
  where
    by : (b : Bool) → (others : List StationId) × (dedup_from is_same_station station rest ≡ station ∷ others)
        → (others : List StationId) × (cond b (dedup_from is_same_station station rest) (station ∷ dedup_from is_same_station next rest) ≡ station ∷ others)
    by true found = found
    by false found = (dedup_from is_same_station next rest, refl)

differ : (m n : ℕ) → nat_eq m n ≡ false → n ≢ m
differ m n none same = grind (arith, nat_tests, none, same)

apart-from : (station : StationId) (rest : List StationId) → AreApart (dedup_from is_same_station station rest)
apart-from station [] = tt
apart-from station (next ∷ rest) = by (is_same_station next station) refl (apart-from station rest) (apart-from next rest)
  where
    by : (b : Bool) → is_same_station next station ≡ b → AreApart (dedup_from is_same_station station rest) → AreApart (dedup_from is_same_station next rest)
        → AreApart (cond b (dedup_from is_same_station station rest) (station ∷ dedup_from is_same_station next rest))
    by true e same other = same
    by false e same other =
        let head = dedup_head next rest in
        subst (λ (behind : List StationId). AreApart (station ∷ behind)) (sym head.1) (differ next.0 station.0 e, subst AreApart head.1 other)

-- no station of stations set apart repeats the one before
AreApart-apart : (stations : List StationId) → AreApart (apart stations)
AreApart-apart [] = tt
AreApart-apart (station ∷ rest) = apart-from station rest

length-from : (station : StationId) (rest : List StationId) → length (dedup_from is_same_station station rest) ≤ suc (length rest)
length-from station [] = omega arith
length-from station (next ∷ rest) = by (is_same_station next station) (length-from station rest) (length-from next rest)
  where
    by : (b : Bool) → length (dedup_from is_same_station station rest) ≤ suc (length rest) → length (dedup_from is_same_station next rest) ≤ suc (length rest)
        → length (cond b (dedup_from is_same_station station rest) (station ∷ dedup_from is_same_station next rest)) ≤ suc (suc (length rest))
    by true l m = omega (arith, l)
    by false l m = omega (arith, m)

length-apart : (stations : List StationId) → length (apart stations) ≤ length stations
length-apart [] = omega arith
length-apart (station ∷ rest) = length-from station rest

names_shape : (count : ℕ) (shape : Option ℕ) → IsBelow count shape → NamesShape count shape
names_shape count None below = tt
names_shape count (Some n) below = below

-- patterns of trips fit a feed
module _ (feed : Feed) where
  cons_pattern : (line shape : Option ℕ) (stations : List StationId) (rest : List Pattern)
      → IsBelow (length feed.lines) line → IsBelow (length feed.shapes) shape → AreFew stations → All (λ (s : StationId). s.0 < length feed.stations) stations
      → All (IsPattern feed) rest → All (IsPattern feed) (cons_option (trip_pattern line stations shape) rest)
  cons_pattern None shape stations rest line_below shape_below few below all = all
  cons_pattern (Some line) shape stations rest line_below shape_below few below all = by (nat_le 2 (length (apart stations))) refl
    where
      by : (b : Bool) → nat_le 2 (length (apart stations)) ≡ b
          → All (IsPattern feed) (cons_option (if b then Some (record { line = record { 0 = line }; stops = apart stations; shape = shape }) else None) rest)
      by false e = all
      by true e =
          let pattern : Pattern = record { line = record { 0 = line }; stops = apart stations; shape = shape } in
          let fewer = length-apart stations in
          All-cons (IsPattern feed) pattern rest (record {
            line = line_below;
            some_stops = leb-true 2 (length (apart stations)) e;
            few_stops = omega (arith, fewer, few);
            stops = All-dedup is_same_station (λ (s : StationId). s.0 < length feed.stations) stations below;
            apart = AreApart-apart stations;
            shape = names_shape (length feed.shapes) shape shape_below;
          }) all

  all-trip_patterns : (lines : List (Option ℕ)) (stations : List (List StationId)) (shapes : List (Option ℕ))
      → All (IsBelow (length feed.lines)) lines → All (IsBelow (length feed.shapes)) shapes
      → All (λ (served : List StationId). AreFew served) stations → All (λ (served : List StationId). All (λ (s : StationId). s.0 < length feed.stations) served) stations
      → All (IsPattern feed) (trip_patterns lines stations shapes)
  all-trip_patterns [] stations shapes a b c d = All-nil (IsPattern feed)
  all-trip_patterns (line ∷ lines) [] shapes a b c d = All-nil (IsPattern feed)
  all-trip_patterns (line ∷ lines) (s ∷ stations) [] a b c d = All-nil (IsPattern feed)
  all-trip_patterns (line ∷ lines) (s ∷ stations) (shape ∷ shapes) a b c d =
      let few = λ (served : List StationId). AreFew served in
      let below = λ (served : List StationId). All (λ (s : StationId). s.0 < length feed.stations) served in
      cons_pattern line shape s (trip_patterns lines stations shapes)
      (All-head (IsBelow (length feed.lines)) line lines a) (All-head (IsBelow (length feed.shapes)) shape shapes b)
      (All-head few s stations c) (All-head below s stations d)
      (all-trip_patterns lines stations shapes (All-tail (IsBelow (length feed.lines)) line lines a) (All-tail (IsBelow (length feed.shapes)) shape shapes b)
      (All-tail few s stations c) (All-tail below s stations d))

-- there are no more patterns than trips
length-trip_patterns : (lines : List (Option ℕ)) (stations : List (List StationId)) (shapes : List (Option ℕ)) → length (trip_patterns lines stations shapes) ≤ length lines
length-trip_patterns [] stations shapes = omega arith
length-trip_patterns (line ∷ lines) [] shapes = omega arith
length-trip_patterns (line ∷ lines) (s ∷ stations) [] = omega arith
length-trip_patterns (line ∷ lines) (s ∷ stations) (shape ∷ shapes) = by (trip_pattern line s shape) (length-trip_patterns lines stations shapes)
  where
    by : (pattern : Option Pattern) → length (trip_patterns lines stations shapes) ≤ length lines → length (cons_option pattern (trip_patterns lines stations shapes)) ≤ suc (length lines)
    by None l = omega (arith, l)
    by (Some pattern) l = omega (arith, l)

-- the tables of a feed without a bad row fit together
pub is_feed : (routes : FeedRoutes) (stops : FeedStops) (trips : KnownTrips) (shapes : KnownShapes) (stations : List (List StationId))
    → AreGoodRoutes routes → AreGoodStops stops → AreGoodTrips (length routes.lines) trips → AreGoodShapes trips shapes → AreServed (length stops.stations) trips stations
    → IsFeed (feed_of routes stops trips shapes stations)
is_feed routes stops trips shapes stations good_routes good_stops good_trips good_shapes served =
    let feed = feed_of routes stops trips shapes stations in
    let all = trip_patterns trips.lines stations shapes.of_trips in
    let fewer = length-firsts is_same_pattern all in
    let counted = length-trip_patterns trips.lines stations shapes.of_trips in
    record {
      few_stations = good_stops.few;
      few_lines = good_routes.few;
      few_patterns = omega (arith, fewer, counted, good_trips.as_many_lines, good_trips.few);
      few_shapes = good_shapes.few;
      placed = good_stops.placed;
      shapes = good_shapes.shapes;
      patterns = All-firsts (IsPattern feed) is_same_pattern all
          (all-trip_patterns feed trips.lines stations shapes.of_trips good_trips.lines good_shapes.of_trips served.few served.below);
      station_ids = good_stops.distinct;
      line_ids = subst (IsDistinct bytes_eq) good_routes.line_ids good_routes.distinct;
    }
