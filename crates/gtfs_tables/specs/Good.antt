-- What the tables of a feed without a bad row keep.
use Rattle.std.specs.Prelude.{◌≡◌, ◌<◌, ℕ, List, length, map, All, Option, Some, None, bytes_eq}
use Rattle.std.specs.List.{IsDistinct}
use Rattle.map_base.specs.declared.ids.StationId.{StationId}
use Rattle.transit_feed.specs.declared.line.Line.{Line}
use Rattle.transit_feed.specs.Feeds.{AreFew, IsPlaced, IsShape}
use Rattle.route_tables.specs.declared.known.FeedRoutes.{FeedRoutes}
use Rattle.stop_table.specs.declared.known.FeedStops.{FeedStops}
use Rattle.route_tables.specs.declared.known.KnownTrips.{KnownTrips}
use Rattle.sequence_tables.specs.declared.known.KnownShapes.{KnownShapes}
use Rattle.stop_table.specs.Leads.{station_ids}

-- a number, if it is there, is below a count
abbrev pub IsBelow : ℕ → Option ℕ → Type 0
IsBelow count None = Unit {0}
IsBelow count (Some n) = n < count

-- the lines of a feed have ids of their own
pub record AreGoodRoutes (routes : FeedRoutes) : Type 0 where
  pub few : AreFew routes.lines
  pub line_ids : routes.known.line_ids ≡ map (λ (line : Line). line.id) routes.lines
  pub distinct : IsDistinct bytes_eq routes.known.line_ids

-- the stations of a feed are places with ids of their own, and each stop leads to one of them or to none
pub record AreGoodStops (stops : FeedStops) : Type 0 where
  pub few : AreFew stops.stations
  pub placed : All IsPlaced stops.stations
  pub distinct : IsDistinct bytes_eq (station_ids stops.stations)
  pub led : All (IsBelow (length stops.stations)) stops.known.stations

-- the trips of a feed have ids of their own, and each is of one of so many lines or not selected
pub record AreGoodTrips (count : ℕ) (trips : KnownTrips) : Type 0 where
  pub few : AreFew trips.ids
  pub distinct : IsDistinct bytes_eq trips.ids
  pub lines : All (IsBelow count) trips.lines
  pub as_many_lines : length trips.lines ≡ length trips.ids
  pub as_many_shapes : length trips.shapes ≡ length trips.ids

-- the shapes of a feed have two points at least, and each trip has one of them or none
pub record AreGoodShapes (trips : KnownTrips) (known : KnownShapes) : Type 0 where
  pub few : AreFew known.shapes
  pub shapes : All IsShape known.shapes
  pub of_trips : All (IsBelow (length known.shapes)) known.of_trips
  pub as_many : length known.of_trips ≡ length trips.ids

-- each trip serves some of so many stations
pub record AreServed (count : ℕ) (trips : KnownTrips) (stations : List (List StationId)) : Type 0 where
  pub as_many : length stations ≡ length trips.ids
  pub few : All (λ (served : List StationId). AreFew served) stations
  pub below : All (λ (served : List StationId). All (λ (station : StationId). station.0 < count) served) stations
