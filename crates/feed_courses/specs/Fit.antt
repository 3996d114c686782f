-- What holds of all courses: points apart and in the plane, hops that join the points of their stops.
use Rattle.std.specs.Prelude.{◌≡◌, ◌≢◌, ℕ, ◌<◌, ◌≤◌, ◌^◌, ◌==◌, Bool, true, List, [], ◌∷◌, length, map, sum_by, All, Contains}
use Rattle.std.specs.List.{list_any}
use Rattle.map_base.specs.declared.ids.LineId.{LineId}
use Rattle.map_base.specs.declared.point.Point.{Point}
use Rattle.fixed_plane.specs.Plane.{IsInPlane}
use Rattle.shape_track.specs.Hops.{AreJoined, total_of}
use Rattle.shape_track.specs.Samples.{point_at}
use Rattle.feed_courses.specs.declared.courses.Course.{Course}
use Rattle.feed_courses.specs.declared.courses.Courses.{Courses}

-- points of different places are different
abbrev pub AreDistinct : List Point → Type 0
AreDistinct ps = (i j : ℕ) → i < length ps → j < length ps → point_at ps i ≡ point_at ps j → i ≡ j

-- no number stands twice in a row
abbrev pub AreApart : List ℕ → Type 0
AreApart [] = Unit {0}
AreApart (a ∷ []) = Unit {0}
AreApart (a ∷ b ∷ rest) = (a ≢ b) × AreApart (b ∷ rest)

-- a course over points: at least two stops, each the place of a point and none twice in a row; its hops join the
-- points of its stops, and all their samples are in the plane
pub record IsCourse (near : ℕ) (points : List Point) (course : Course) : Type 0 where
  pub some_stops : 2 ≤ length course.stops
  pub stops : All (λ place. place < length points) course.stops
  pub apart : AreApart course.stops
  pub joined : AreJoined near (map (point_at points) course.stops) course.hops
  pub in_plane : All (λ hop. All IsInPlane hop) course.hops

-- how many samples the hops of a course have
abbrev pub hop_total : Course → ℕ
hop_total course = total_of course.hops

-- the courses fit together: one point for each station, all of them different and in the plane; each course is one
-- over these points; there are at most 10,000 stations, and 4,000,000 samples in the hops of all courses
pub record AreFit (near : ℕ) (courses : Courses) : Type 0 where
  pub count : length courses.points ≡ length courses.stations
  pub few_stations : length courses.points ≤ 10000
  pub distinct : AreDistinct courses.points
  pub in_plane : All IsInPlane courses.points
  pub each : All (IsCourse near courses.points) courses.courses
  pub few_samples : sum_by hop_total courses.courses ≤ 4000000

-- a course stops at a place
abbrev pub stops_at : ℕ → Course → Bool
stops_at place course = list_any (λ s. s == place) course.stops

-- the courses are those of at most 1,000 different lines of so many, and one of them stops at each station
pub record AreServed (count : ℕ) (courses : Courses) : Type 0 where
  pub few : count < 2 ^ 32
  pub lines : All (λ (c : Course). c.line.0 < count) courses.courses
  pub known_lines : (known : List LineId) × (length known ≤ 1000) × All (λ (c : Course). Contains known c.line) courses.courses
  pub served : (place : ℕ) → place < length courses.points → list_any (stops_at place) courses.courses ≡ true
