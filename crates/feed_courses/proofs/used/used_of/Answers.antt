use Rattle.std.proofs.Common.{◌≡◌, ◌∙◌, sym, ap, subst, ℕ, ◌<◌, List, map, length, All}
use Rattle.map_base.specs.declared.point.Point.{Point}
use Rattle.transit_feed.specs.declared.station.Station.{Station}
use Rattle.transit_feed.specs.Feeds.{Feed}
use Rattle.feed_courses.specs.Shown.{used_stations}
use Rattle.feed_courses.specs.Places.{projected_station, moved_apart, used_points}
use Rattle.feed_courses.specs.Tables.{IsPlaceTable}
use Rattle.feed_courses.proofs.Served.{used-below}
use Rattle.feed_courses.proofs.used.used_of.Goals as goal

-- the numbers that are read are those of stations
below_count : (feed : Feed) (numbers : List ℕ) (count : ℕ) → numbers ≡ used_stations feed → count ≡ length feed.stations → All (λ n. n < count) numbers
below_count feed numbers count is count_is =
    subst (λ (m : ℕ). All (λ n. n < m) numbers) (sym count_is) (subst (λ (ns : List ℕ). All (λ n. n < length feed.stations) ns) (sym is) (used-below feed))

-- the points that are made are those of the used stations
points_made : (feed : Feed) (stations : List Station) (numbers : List ℕ) (points read apart : List Point) → stations ≡ feed.stations → numbers ≡ used_stations feed → points ≡ map (projected_station stations) numbers →
    read ≡ points → apart ≡ moved_apart read → apart ≡ used_points feed
unfolding used_points
points_made feed stations numbers points read apart stations_is numbers_is points_is read_is is =
    is
    ∙ ap moved_apart (read_is ∙ points_is ∙ ap (λ (ss : List Station). map (projected_station ss) numbers) stations_is ∙ ap (map (projected_station feed.stations)) numbers_is)

pub station_points-requires-clause-in_range : goal.station_points-requires-clause-in_range
station_points-requires-clause-in_range c =
    below_count c.args.tables.now c.deref-2.result.now (length c.deref.result.now) (c.deref-2.ensures.value ∙ c.requires.numbers)
    (ap length (c.deref.ensures.value ∙ ap (λ (f : Feed). f.stations) c.tables.view_is))

pub place_table-requires-clause-in_range : goal.place_table-requires-clause-in_range
place_table-requires-clause-in_range c =
    below_count c.args.tables.now c.deref-4.result.now c.len.result (c.deref-4.ensures.value ∙ c.requires.numbers)
    (c.len.ensures ∙ sym c.deref.ensures.len ∙ ap length (c.deref.ensures.value ∙ ap (λ (f : Feed). f.stations) c.tables.view_is))

pub returns-clause-used : goal.returns-clause-used
returns-clause-used c =
    let feed = c.args.tables.now in
    let stations : c.deref.result.now ≡ feed.stations = c.deref.ensures.value ∙ ap (λ (f : Feed). f.stations) c.tables.view_is in
    record {
      numbers = c.requires.numbers;
      points = points_made feed c.deref.result.now c.deref-2.result.now c.in_ok-points.points.items c.deref-3.result.now c.in_ok-points-2.points.items stations (c.deref-2.ensures.value ∙ c.requires.numbers)
          c.in_ok-points.ensures.points c.deref-3.ensures.value c.in_ok-points-2.ensures.points;
      places = subst (λ (n : ℕ). IsPlaceTable n (used_stations feed) c.in_ok-places.places.items) (c.len.ensures ∙ sym c.deref.ensures.len ∙ ap length stations)
          (subst (λ (ns : List ℕ). IsPlaceTable c.len.result ns c.in_ok-places.places.items) (c.deref-4.ensures.value ∙ c.requires.numbers) c.in_ok-places.ensures);
    }
