-- Tables that are made before the courses.
use Rattle.std.specs.Prelude.{◌≡◌, ℕ, List, length, slice_index}
use Rattle.map_base.specs.declared.ids.StationId.{StationId}
use Rattle.transit_feed.specs.Feeds.{Feed}
use Rattle.feed_courses.specs.Shown.{used_stations}
use Rattle.feed_courses.specs.Places.{used_points}
use Rattle.feed_courses.specs.Outcome.{place_of, station_numbered}
use Rattle.feed_courses.specs.declared.used.Used.{Used}

-- the place that a table gives for a station
abbrev pub place_in : List ℕ → StationId → ℕ
place_in table station = slice_index table station.0

-- the table has for each station its place among the used ones
pub record IsPlaceTable (count : ℕ) (used table : List ℕ) : Type 0 where
  pub count_is : length table ≡ count
  pub places : (n : ℕ) → slice_index table n ≡ place_of used (station_numbered n)

-- these are the used stations of the feed, their points and their places
pub record AreUsed (feed : Feed) (used : Used) : Type 0 where
  pub numbers : used.numbers.items ≡ used_stations feed
  pub points : used.points.items ≡ used_points feed
  pub places : IsPlaceTable (length feed.stations) (used_stations feed) used.places.items
