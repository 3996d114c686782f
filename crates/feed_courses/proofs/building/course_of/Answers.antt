use Rattle.std.proofs.Common.{◌≡◌, ◌∙◌, sym, refl, ap, subst, ℕ, ◌+◌, ◌<◌, List, map, length, All, rules}
use Rattle.map_base.specs.declared.ids.StationId.{StationId}
use Rattle.map_base.specs.declared.point.Point.{Point}
use Rattle.map_base.specs.declared.limit.LimitKind.TheVariants.{Samples}
use Rattle.shape_track.specs.Samples.{point_at, samples_of}
use Rattle.shape_track.specs.Hops.{total_of}
use Rattle.transit_feed.specs.declared.pattern.Pattern.{Pattern}
use Rattle.transit_feed.specs.Feeds.{Feed}
use Rattle.feed_courses.specs.Outcome.{stop_places, stop_points, course_points, course_hops, hops_along, sample_count}
use Rattle.feed_courses.specs.Faults.{IsAbove}
use Rattle.feed_courses.specs.Tables.{place_in, AreUsed}
use Rattle.feed_courses.specs.declared.used.Used.{Used}
use Rattle.feed_courses.proofs.CourseLemmas.{stops_are, stops_in_table, stops_have_points, stations_are, hops_are, course_is, count_is, IsCourse-made, IsAbove-same}
use Rattle.feed_courses.proofs.building.course_of.Goals as goal

-- the places of the stops, as they are made
stops_made : (feed : Feed) (pattern : Pattern) (used : Used) (stops table : List ℕ) (read : List StationId) → AreUsed feed used → stops ≡ map (place_in table) read → table ≡ used.places.items → read ≡ pattern.stops →
    stops ≡ stop_places feed pattern
stops_made feed pattern used stops table read are made table_is read_is =
    stops_are feed pattern used stops are (made ∙ ap (λ (t : List ℕ). map (place_in t) read) table_is ∙ ap (map (place_in used.places.items)) read_is)

-- and their points
stations_made : (feed : Feed) (pattern : Pattern) (used : Used) (stops places : List ℕ) (stations points : List Point) → AreUsed feed used → stops ≡ stop_places feed pattern → stations ≡ map (point_at points) places →
    points ≡ used.points.items → places ≡ stops → stations ≡ stop_points feed pattern
stations_made feed pattern used stops places stations points are stops_is made points_is places_is =
    stations_are feed pattern used stops stations are stops_is (made ∙ ap (λ (ps : List Point). map (point_at ps) places) points_is ∙ ap (map (point_at used.points.items)) places_is)

pub stop_places-requires : goal.stop_places-requires
stop_places-requires c = record {
  in_range =
      subst (λ (n : List ℕ). All (λ (s : StationId). s.0 < length n) c.as_slice.result.now) (sym c.deref.ensures.value)
      (subst (λ (stops : List StationId). All (λ (s : StationId). s.0 < length c.args.used.now.places.items) stops) (sym c.as_slice.ensures)
      (stops_in_table c.args.tables.now c.args.pattern.now c.args.used.now c.requires.used c.requires.pattern));
}

pub points_at-requires-clause-in_range : goal.points_at-requires-clause-in_range
points_at-requires-clause-in_range c =
    let feed = c.args.tables.now in
    let pattern = c.args.pattern.now in
    let used = c.args.used.now in
    let stops_is = stops_made feed pattern used c.in_ok-stops.stops.items c.deref.result.now c.as_slice.result.now c.requires.used c.in_ok-stops.ensures c.deref.ensures.value c.as_slice.ensures in
    subst (λ (points : List Point). All (λ place. place < length points) c.deref-3.result.now) (sym c.deref-2.ensures.value)
    (stops_have_points feed pattern used c.deref-3.result.now c.requires.used c.requires.shown c.requires.pattern (c.deref-3.ensures.value ∙ stops_is))

pub course_points-requires-clause-stations : goal.course_points-requires-clause-stations
course_points-requires-clause-stations c =
    let feed = c.args.tables.now in
    let pattern = c.args.pattern.now in
    let used = c.args.used.now in
    let stops_is = stops_made feed pattern used c.in_ok-stops.stops.items c.deref.result.now c.as_slice.result.now c.requires.used c.in_ok-stops.ensures c.deref.ensures.value c.as_slice.ensures in
    c.deref-4.ensures.value
    ∙ stations_made feed pattern used c.in_ok-stops.stops.items c.deref-3.result.now c.in_ok-stations.stations.items c.deref-2.result.now c.requires.used stops_is c.in_ok-stations.ensures.points c.deref-2.ensures.value c.deref-3.ensures.value

pub returns-in_err-hops-clause-cause : goal.returns-in_err-hops-clause-cause
returns-in_err-hops-clause-cause c =
    let near = c.args.near in
    let feed = c.args.tables.now in
    let pattern = c.args.pattern.now in
    let used = c.args.used.now in
    let stops_is = stops_made feed pattern used c.in_ok-stops.stops.items c.deref.result.now c.as_slice.result.now c.requires.used c.in_ok-stops.ensures c.deref.ensures.value c.as_slice.ensures in
    let stations_is : c.deref-6.result.now ≡ stop_points feed pattern =
    c.deref-6.ensures.value
    ∙ stations_made feed pattern used c.in_ok-stops.stops.items c.deref-3.result.now c.in_ok-stations.stations.items c.deref-2.result.now c.requires.used stops_is c.in_ok-stations.ensures.points c.deref-2.ensures.value c.deref-3.ensures.value in
    let points_is : c.deref-5.result.now ≡ course_points feed pattern pattern.shape = c.deref-5.ensures.value ∙ c.in_ok-points.ensures.points in
    let hops = hops_along near (samples_of near c.deref-5.result.now) c.deref-6.result.now in
    let hops_is : hops_along near (samples_of near c.deref-5.result.now) c.deref-6.result.now ≡ course_hops near feed pattern =
    hops_are near feed pattern c.deref-5.result.now c.deref-6.result.now hops points_is stations_is refl in
    let cause : IsAbove Samples c.args.left (sample_count near feed pattern) c.in_err-hops.field-0.0 =
    IsAbove-same Samples c.args.left (length (samples_of near c.deref-5.result.now) + total_of hops) (sample_count near feed pattern) c.in_err-hops.field-0.0
    (count_is near feed pattern c.deref-5.result.now hops points_is hops_is) c.in_err-hops.ensures.cause in
    search (rules, cause)

pub returns-clause-course : goal.returns-clause-course
returns-clause-course c =
    let near = c.args.near in
    let feed = c.args.tables.now in
    let pattern = c.args.pattern.now in
    let used = c.args.used.now in
    let stops_is = stops_made feed pattern used c.in_ok-stops.stops.items c.deref.result.now c.as_slice.result.now c.requires.used c.in_ok-stops.ensures c.deref.ensures.value c.as_slice.ensures in
    let stations_is : c.deref-6.result.now ≡ stop_points feed pattern =
    c.deref-6.ensures.value
    ∙ stations_made feed pattern used c.in_ok-stops.stops.items c.deref-3.result.now c.in_ok-stations.stations.items c.deref-2.result.now c.requires.used stops_is c.in_ok-stations.ensures.points c.deref-2.ensures.value c.deref-3.ensures.value in
    let points_is : c.deref-5.result.now ≡ course_points feed pattern pattern.shape = c.deref-5.ensures.value ∙ c.in_ok-points.ensures.points in
    let hops_is = hops_are near feed pattern c.deref-5.result.now c.deref-6.result.now c.in_ok-hops.hops points_is stations_is c.in_ok-hops.ensures.hops in
    course_is near feed pattern c.of.result c.in_ok-hops.hops (c.of.ensures ∙ stops_is) hops_is

pub returns-clause-left : goal.returns-clause-left
returns-clause-left c =
    let near = c.args.near in
    let feed = c.args.tables.now in
    let pattern = c.args.pattern.now in
    let used = c.args.used.now in
    let stops_is = stops_made feed pattern used c.in_ok-stops.stops.items c.deref.result.now c.as_slice.result.now c.requires.used c.in_ok-stops.ensures c.deref.ensures.value c.as_slice.ensures in
    let stations_is : c.deref-6.result.now ≡ stop_points feed pattern =
    c.deref-6.ensures.value
    ∙ stations_made feed pattern used c.in_ok-stops.stops.items c.deref-3.result.now c.in_ok-stations.stations.items c.deref-2.result.now c.requires.used stops_is c.in_ok-stations.ensures.points c.deref-2.ensures.value c.deref-3.ensures.value in
    let points_is : c.deref-5.result.now ≡ course_points feed pattern pattern.shape = c.deref-5.ensures.value ∙ c.in_ok-points.ensures.points in
    let hops_is = hops_are near feed pattern c.deref-5.result.now c.deref-6.result.now c.in_ok-hops.hops points_is stations_is c.in_ok-hops.ensures.hops in
    sym (ap (λ n. c.in_ok-hops.rest + n) (count_is near feed pattern c.deref-5.result.now c.in_ok-hops.hops points_is hops_is)) ∙ c.in_ok-hops.ensures.left

pub returns-clause-fit : goal.returns-clause-fit
returns-clause-fit c =
    let near = c.args.near in
    let feed = c.args.tables.now in
    let pattern = c.args.pattern.now in
    let used = c.args.used.now in
    let stops_is = stops_made feed pattern used c.in_ok-stops.stops.items c.deref.result.now c.as_slice.result.now c.requires.used c.in_ok-stops.ensures c.deref.ensures.value c.as_slice.ensures in
    let stations_is : c.deref-6.result.now ≡ stop_points feed pattern =
    c.deref-6.ensures.value
    ∙ stations_made feed pattern used c.in_ok-stops.stops.items c.deref-3.result.now c.in_ok-stations.stations.items c.deref-2.result.now c.requires.used stops_is c.in_ok-stations.ensures.points c.deref-2.ensures.value c.deref-3.ensures.value in
    IsCourse-made near feed pattern used c.of.result c.deref-6.result.now c.in_ok-hops.hops c.requires.used c.requires.shown c.requires.pattern (c.of.ensures ∙ stops_is) stations_is
    c.in_ok-hops.ensures.joined c.in_ok-hops.ensures.in_plane
