-- Where the used stations of a feed lie on the plane.
use Rattle.std.specs.Prelude.{ℕ, zero, suc, pos, ◌+ℤ◌, Bool, List, [], ◌∷◌, ◌++◌, length, map, fold, Option, Some, None, if◌then◌else◌, slice_get}
use Rattle.std.specs.List.{list_any}
use Rattle.map_base.specs.declared.point.Point.{Point}
use Rattle.fixed_plane.specs.Plane.{band_at, projected}
use Rattle.shape_track.specs.Samples.{is_point}
use Rattle.transit_feed.specs.declared.station.Station.{Station}
use Rattle.transit_feed.specs.Feeds.{Feed}
use Rattle.feed_courses.specs.Shown.{used_stations}

-- the band of a feed: that of its first station
abbrev pub feed_band : List Station → ℕ
feed_band [] = 0
feed_band (first ∷ others) = band_at first.lat

-- the point of a station that is there
abbrev pub point_of_station : ℕ → Option Station → Point
point_of_station band None = record { x = pos 0; y = pos 0 }
point_of_station band (Some station) = projected station.lat station.lon band

-- the point of the station of this number, by its latitude and longitude
abbrev pub projected_station : List Station → ℕ → Point
projected_station stations n = point_of_station (feed_band stations) (slice_get stations n)

-- a point stands among these
abbrev pub is_taken : List Point → Point → Bool
is_taken taken p = list_any (is_point p) taken

-- one unit to the right
abbrev pub right_of : Point → Point
right_of p = record { x = p.x +ℤ pos 1; y = p.y }

-- The first free point from p on to the right, of that many and one more. Where there are no more taken points
-- than that, it is free.
abbrev pub first_free : ℕ → List Point → Point → Point
first_free zero taken p = p
first_free (suc more) taken p = if is_taken taken p then first_free more taken (right_of p) else p

-- the points with one more: it moves to the first free point to the right
abbrev pub with_point : List Point → Point → List Point
with_point taken p = taken ++ first_free (length taken) taken p ∷ []

-- points, each moved to the right past the earlier ones that it meets
abbrev pub moved_apart : List Point → List Point
moved_apart points = fold with_point [] points

-- the points of the used stations, in their order
unfoldable pub used_points : Feed → List Point
used_points feed = moved_apart (map (projected_station feed.stations) (used_stations feed))
