-- What the network of courses needs to be one.
use Rattle.std.specs.Prelude.{◌≡◌, ℕ, ◌+◌, ◌<◌, List, length, All}
use Rattle.map_base.specs.declared.point.Point.{Point}
use Rattle.fixed_plane.specs.Plane.{IsInPlane}
use Rattle.track_net.specs.Nets.{NetParts, Joins}
use Rattle.net_paths.specs.Stretches.{IsStretchPath}
use Rattle.net_paths.specs.Choices.{stretch_path_of}
use Rattle.feed_courses.specs.declared.courses.Course.{Course}
use Rattle.line_graph.specs.declared.stretches.Stretch.{Stretch}
use Rattle.line_graph.specs.StretchTables.{StretchTable, stretch_at, corridor_at}

-- a course has a hop from each stop but the last
abbrev pub HasHops : Course → Type 0
HasHops course = length course.hops + 1 ≡ length course.stops

-- a path of a stretch can be asked for: the lower of its stations comes first, the net joins the two, and its
-- corridor is in the plane
pub record IsAsked (net : NetParts) (s : Stretch) (corridor : List Point) : Type 0 where
  pub order : s.low < s.high
  pub joined : Joins net s.low s.high
  pub in_plane : All IsInPlane corridor

-- the chosen path of a stretch along its corridor is one
abbrev pub IsLed : ℕ → NetParts → Stretch → List Point → Type 0
IsLed near net s corridor = IsStretchPath near corridor net s.low s.high (stretch_path_of near corridor net s.low s.high)

-- paths of all stretches of a table can be asked for
abbrev pub AreAsked : NetParts → StretchTable → Type 0
AreAsked net table = (place : ℕ) → place < length table.stretches → IsAsked net (stretch_at table place) (corridor_at table place)

-- the chosen paths of all stretches of a table are paths
abbrev pub AreLed : ℕ → NetParts → StretchTable → Type 0
AreLed near net table = (place : ℕ) → place < length table.stretches → IsLed near net (stretch_at table place) (corridor_at table place)
