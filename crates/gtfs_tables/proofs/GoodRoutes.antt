-- What `routes.txt` and `trips.txt` without a bad row keep.
use Rattle.std.proofs.Common.{◌≡◌, ◌<◌, ◌≤◌, ◌^◌, ℕ, ◌+◌, Bool, true, List, [], ◌∷◌, Option, Some, None, Ok, All, map, filter, drop, length, get_or, bytes_eq, refl, ap, sym, ◌∙◌, subst, arith}
use Rattle.std.specs.List.{IsDistinct}
use Rattle.std.proofs.lemmas.List.{length-map, length-drop}
use Rattle.std.proofs.lemmas.List.Elements.{All-map}
use Rattle.transit_feed.specs.declared.line.Line.{Line}
use Rattle.table_rows.specs.declared.why.Table.{Table}
use Rattle.table_rows.specs.declared.why.Table.TheVariants.{Routes, Trips}
use Rattle.table_rows.specs.declared.why.Why.{Why}
use Rattle.table_rows.specs.Ids.{place_among}
use Rattle.table_rows.specs.Cells.{Row, field_in, ids_in}
use Rattle.table_rows.specs.Reasons.{first_bad, unless_bad}
use Rattle.table_rows.proofs.FirstLemmas.{filter-few}
use Rattle.table_rows.proofs.DistinctIds.{distinct_ids, place_among-below, place_of_distinct}
use Rattle.route_tables.specs.declared.known.KnownRoutes.{KnownRoutes}
use Rattle.route_tables.specs.declared.known.KnownTrips.{KnownTrips}
use Rattle.route_tables.specs.declared.known.FeedRoutes.{FeedRoutes}
use Rattle.gtfs_tables.specs.Good.{IsBelow, AreGoodRoutes, AreGoodTrips}
use Rattle.sequence_tables.specs.StopTimeReads.{AreNumbered}
use Rattle.route_tables.specs.Routes.{route_columns, routes_reason, is_selected, selected_rows, lines_from, lines_of, known_routes, feed_routes}
use Rattle.route_tables.specs.Trips.{trip_columns, trips_reason, line_in, shape_in, known_trips, trips_of}
use Rattle.route_tables.proofs.RouteLemmas.{routes_new, length-lines_from}
use Rattle.route_tables.proofs.TripLemmas.{trips_new}

-- a value that comes of a table is the defined one, and no row is bad
pub unless_bad-ok : {A : Type 0} (table : Table) (bad : Option (ℕ × Why)) (value given : A) → unless_bad table bad value ≡ Ok given → (bad ≡ None) × (value ≡ given)
unless_bad-ok table None value given is = (refl, cc)
unless_bad-ok table (Some bad) value given is = cc

-- what holds of every element holds of all
pub all_of : {X : Type 0} (P : X → Type 0) (xs : List X) → ((x : X) → P x) → All P xs
all_of P xs each = λ k d l. each (get_or xs k d)

pub all_of_map : {X Y : Type 0} (P : Y → Type 0) (f : X → Y) (xs : List X) → ((x : X) → P (f x)) → All P (map f xs)
all_of_map P f xs each = All-map P f xs (λ k d l. each (get_or xs k d))

-- the place of an id is below the length
pub is_below-place : (ids : List (List ℕ)) (id : List ℕ) → IsBelow (length ids) (place_among ids id)
is_below-place ids id = by (place_among ids id) refl
  where
    by : (found : Option ℕ) → place_among ids id ≡ found → IsBelow (length ids) found
    by None e = tt
    by (Some place) e = place_among-below ids id place e

-- rows behind the header are few
pub few_behind : (rows : List Row) → length rows ≤ 2 ^ 32 → length (drop 1 rows) < 2 ^ 32
few_behind rows few = omega (arith, length-drop 1 rows, few)

ids_of_lines : (all : List Row) (n : ℕ) (rows : List Row) → map (λ (line : Line). line.id) (lines_from (route_columns all) n rows) ≡ ids_in (route_columns all).id rows
ids_of_lines all n [] = refl
ids_of_lines all n (row ∷ rows) = ap (λ ids. field_in row (route_columns all).id ∷ ids) (ids_of_lines all (n + 1) rows)

good_known : (types : List ℕ) (rows : List Row) → length rows ≤ 2 ^ 32 → first_bad (routes_reason types rows) rows ≡ None
    → AreGoodRoutes (record { lines = lines_of types rows; known = known_routes types rows })
good_known types rows few good =
    let c = route_columns rows in
    let selected = selected_rows types c rows in
    let counted = length-lines_from c 0 selected in
    let kept = filter-few (is_selected types c) (drop 1 rows) in
    let behind = few_behind rows few in
    record {
      few = omega (arith, counted, kept, behind);
      line_ids = sym (ids_of_lines rows 0 selected);
      distinct = distinct_ids c.id (is_selected types c) rows (routes_new types rows good);
    }

pub good_routes : (types : List ℕ) (rows : List Row) (routes : FeedRoutes) → length rows ≤ 2 ^ 32 → feed_routes types rows ≡ Ok routes → AreGoodRoutes routes
good_routes types rows routes few is =
    let both = unless_bad-ok Routes (first_bad (routes_reason types rows) rows) (record { lines = lines_of types rows; known = known_routes types rows }) routes is in
    subst AreGoodRoutes both.1 (good_known types rows few both.0)

-- all rows
every : Row → Bool
every row = true

filter_every : (rows : List Row) → filter every rows ≡ rows
unfolding every
filter_every [] = refl
filter_every (row ∷ rows) = ap (λ rest. row ∷ rest) (filter_every rows)

good_known_trips : (routes : KnownRoutes) (rows : List Row) → length rows ≤ 2 ^ 32 → first_bad (trips_reason routes rows) rows ≡ None
    → AreGoodTrips (length routes.line_ids) (known_trips routes rows)
good_known_trips routes rows few good =
    let c = trip_columns rows in
    let given = length-map (drop 1 rows) (λ row. field_in row c.id) in
    let behind = few_behind rows few in
    record {
      few = omega (arith, given, behind);
      distinct = subst (λ r. IsDistinct bytes_eq (ids_in c.id r)) (filter_every (drop 1 rows)) (distinct_ids c.id every rows (trips_new routes rows good));
      lines = all_of_map (IsBelow (length routes.line_ids)) (line_in routes c) (drop 1 rows) (λ row. is_below-place routes.line_ids (field_in row c.route));
      as_many_lines = length-map (drop 1 rows) (line_in routes c) ∙ sym given;
      as_many_shapes = length-map (drop 1 rows) (shape_in routes c) ∙ sym given;
    }

pub good_trips : (routes : KnownRoutes) (rows : List Row) (trips : KnownTrips) → length rows ≤ 2 ^ 32 → trips_of routes rows ≡ Ok trips → AreGoodTrips (length routes.line_ids) trips
good_trips routes rows trips few is =
    let both = unless_bad-ok Trips (first_bad (trips_reason routes rows) rows) (known_trips routes rows) trips is in
    subst (AreGoodTrips (length routes.line_ids)) both.1 (good_known_trips routes rows few both.0)

-- there are as many ids of lines as lines
pub count_lines : (routes : FeedRoutes) → AreGoodRoutes routes → length routes.known.line_ids ≡ length routes.lines
count_lines routes good = ap length good.line_ids ∙ length-map routes.lines (λ (line : Line). line.id)

pub few_lines : (routes : FeedRoutes) → AreGoodRoutes routes → length routes.known.line_ids ≤ 2 ^ 32
few_lines routes good = omega (arith, count_lines routes good, good.few)

-- trips of a feed are numbered by their ids
pub numbered : (count : ℕ) (trips : KnownTrips) → AreGoodTrips count trips → AreNumbered trips
numbered count trips good = record {
  lines = good.as_many_lines;
  few = omega (arith, good.few);
  apart = record { once = λ place within. place_of_distinct trips.ids place good.distinct within };
}
