-- The courses of a feed's patterns, or the limit that is met first.
use Rattle.std.specs.Prelude.{ℕ, ℤ, ◌+◌, ◌==◌, List, [], length, map, sum_by, Option, Some, None, unwrap_or, position, slice_get, Result, Ok}
use Rattle.map_base.specs.declared.ids.StationId.{StationId}
use Rattle.map_base.specs.declared.point.Point.{Point}
use Rattle.map_base.specs.declared.limit.Limit.{Limit}
use Rattle.map_base.specs.declared.limit.LimitKind.TheVariants.{Lines, Stations, Samples}
use Rattle.map_base.specs.Limits.{unless_above}
use Rattle.fixed_plane.specs.Plane.{projected}
use Rattle.shape_track.specs.Samples.{point_at, samples_of}
use Rattle.shape_track.specs.Choices.{snap_of}
use Rattle.shape_track.specs.Hops.{hops_of, total_of}
use Rattle.transit_feed.specs.declared.pattern.Pattern.{Pattern}
use Rattle.transit_feed.specs.declared.shape.Shape.{Shape}
use Rattle.transit_feed.specs.Feeds.{Feed}
use Rattle.feed_courses.specs.Shown.{shown_patterns, shown_lines, used_stations}
use Rattle.feed_courses.specs.Places.{feed_band, used_points}
use Rattle.feed_courses.specs.declared.courses.Course.{Course}
use Rattle.feed_courses.specs.declared.courses.Courses.{Courses}

-- the place of a station among the used ones
abbrev pub place_of : List ℕ → StationId → ℕ
place_of used station = unwrap_or (position (λ n. n == station.0) used) 0

-- the places of a pattern's stations among the used ones
abbrev pub stop_places : Feed → Pattern → List ℕ
stop_places feed pattern = map (place_of (used_stations feed)) pattern.stops

-- the points of a pattern's stations
abbrev pub stop_points : Feed → Pattern → List Point
stop_points feed pattern = map (point_at (used_points feed)) (stop_places feed pattern)

-- the points of a shape that is there
abbrev pub shape_points : ℕ → Option Shape → List Point
shape_points band None = []
shape_points band (Some shape) = map (λ (p : ℤ × ℤ). projected p.0 p.1 band) shape.points

-- the course of a pattern: the points of its shape, or of its stations where it has none
abbrev pub course_points : Feed → Pattern → Option ℕ → List Point
course_points feed pattern None = stop_points feed pattern
course_points feed pattern (Some n) = shape_points (feed_band feed.stations) (slice_get feed.shapes n)

-- the samples along the course of a pattern
abbrev pub course_samples : ℕ → Feed → Pattern → List Point
course_samples near feed pattern = samples_of near (course_points feed pattern pattern.shape)

-- the hops of stations along samples, each station at its place of the snap
unfoldable pub hops_along : ℕ → List Point → List Point → List (List Point)
hops_along near samples stations = hops_of near samples stations (snap_of samples stations)

abbrev pub course_hops : ℕ → Feed → Pattern → List (List Point)
course_hops near feed pattern = hops_along near (course_samples near feed pattern) (stop_points feed pattern)

-- the course of a pattern
unfoldable pub course_of : ℕ → Feed → Pattern → Course
course_of near feed pattern = record { line = pattern.line; stops = stop_places feed pattern; hops = course_hops near feed pattern }

-- how many samples a pattern has: those of its course and those of its hops
unfoldable pub sample_count : ℕ → Feed → Pattern → ℕ
sample_count near feed pattern = length (course_samples near feed pattern) + total_of (course_hops near feed pattern)

-- how many samples all patterns that are shown have
abbrev pub sample_total : ℕ → Feed → ℕ
sample_total near feed = sum_by (sample_count near feed) (shown_patterns feed)

-- the station of a number
abbrev pub station_numbered : ℕ → StationId
station_numbered n = record { 0 = n }

-- the courses of all patterns that are shown
abbrev pub courses_of : ℕ → Feed → Courses
courses_of near feed = record {
  stations = map station_numbered (used_stations feed);
  points = used_points feed;
  courses = map (course_of near feed) (shown_patterns feed);
}

-- the courses of a feed, or the first limit that it is above: of lines, of stations, of samples
unfoldable pub courses_outcome : ℕ → Feed → Result Courses Limit
courses_outcome near feed =
    unless_above Lines (length (shown_lines feed))
    (unless_above Stations (length (used_stations feed))
    (unless_above Samples (sample_total near feed)
    (Ok (courses_of near feed))))
