-- The definitions at small values.
use Rattle.std.proofs.Common.{◌≡◌, refl, ℕ, false, List, [], ◌∷◌, replicate, Option, None, Some, Ok, pos}
use Rattle.map_base.specs.declared.ids.StationId.{StationId}
use Rattle.map_base.specs.declared.point.Point.{Point}
use Rattle.transit_feed.specs.declared.pattern.Pattern.{Pattern}
use Rattle.transit_feed.specs.declared.station.Station.{Station}
use Rattle.transit_feed.specs.Feeds.{Feed}
use Rattle.feed_courses.specs.Outcome.{course_of, courses_outcome, hops_along, sample_count}
use Rattle.feed_courses.specs.Places.{moved_apart, used_points}
use Rattle.feed_courses.specs.Shown.{lines_with, shown_patterns, stations_in, used_stations}

abbrev at : ℕ → ℕ → Point
at x y = record { x = pos x; y = pos y }

abbrev pattern : ℕ → List StationId → Pattern
pattern line stops = record { line = record { 0 = line }; stops = stops; shape = None }

abbrev station : ℕ → StationId
station n = record { 0 = n }

-- a point that is taken moves to the right past all that it meets, and those that came before it stay
moved : moved_apart (at 0 0 ∷ at 0 0 ∷ at 1 0 ∷ at 0 0 ∷ at 1 5 ∷ []) ≡ at 0 0 ∷ at 1 0 ∷ at 2 0 ∷ at 3 0 ∷ at 1 5 ∷ []
moved = refl

-- a point that is free stays, though another one would have moved there
free_stays : moved_apart (at 1 0 ∷ at 0 0 ∷ at 0 0 ∷ []) ≡ at 1 0 ∷ at 0 0 ∷ at 2 0 ∷ []
free_stays = refl

-- lines and stations stand by number, each once, whatever the order of the patterns
lines_rise : lines_with 4 (pattern 2 (station 3 ∷ station 1 ∷ []) ∷ pattern 0 (station 1 ∷ station 0 ∷ station 1 ∷ []) ∷ []) ≡ 0 ∷ 2 ∷ []
lines_rise = refl

stations_rise : stations_in 5 (pattern 2 (station 3 ∷ station 1 ∷ []) ∷ pattern 0 (station 1 ∷ station 0 ∷ station 1 ∷ []) ∷ []) ≡ 0 ∷ 1 ∷ 3 ∷ []
stations_rise = refl

-- two stations on one point and one to the north of them: a line from the first to the third along a shape over a point in
-- the east, and from the third to the second
abbrev station_at : ℕ → Station
station_at lat = record { id = lat ∷ []; name = []; lat = pos lat; lon = pos 0 }

abbrev between : ℕ → ℕ → Option ℕ → Pattern
between from to shape = record { line = record { 0 = 0 }; stops = station from ∷ station to ∷ []; shape = shape }

abbrev bent_feed : Feed
bent_feed = record {
  stations = station_at 0 ∷ station_at 0 ∷ station_at 4492 ∷ [];
  lines = record { id = []; name = []; colour = replicate 3 0; hidden = false } ∷ [];
  patterns = between 0 2 (Some 0) ∷ between 2 1 None ∷ [];
  shapes = record { points = (pos 0, pos 0) ∷ (pos 0, pos 10000) ∷ (pos 4492, pos 0) ∷ [] } ∷ [];
}

bent_courses : courses_outcome 20000 bent_feed ≡ Ok (record {
  stations = station 0 ∷ station 1 ∷ station 2 ∷ [];
  points = at 0 0 ∷ at 1 0 ∷ at 0 5000 ∷ [];
  courses =
      record {
        line = record { 0 = 0 };
        stops = 0 ∷ 2 ∷ [];
        hops = (at 0 0 ∷ at 5566 0 ∷ at 11132 0 ∷ at 5566 2500
            ∷ at 0 5000 ∷ []) ∷ [];
      }
      ∷ record { line = record { 0 = 0 }; stops = 2 ∷ 1 ∷ []; hops = (at 0 5000 ∷ at 1 0 ∷ []) ∷ [] } ∷ [];
})
unfolding courses_outcome course_of sample_count hops_along shown_patterns used_stations used_points
bent_courses = refl
