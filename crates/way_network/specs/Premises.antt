-- What is known of a network: its ways are simple and lead from station to station, and edges of one point have
-- directions of their own.
use Rattle.std.specs.Prelude.{◌≡◌, ◌≢◌, ℕ, ◌<◌, ◌≤◌, true, eqb, List, length, All, Contains, ◌^◌}
use Rattle.std.specs.List.{IsDistinct}
use Rattle.map_base.specs.declared.point.Point.{Point}
use Rattle.fixed_plane.specs.Plane.{IsInPlane}
use Rattle.fixed_plane.specs.Directions.{LieInOneDirection}
use Rattle.track_net.specs.Nearness.{point_at}
use Rattle.map_base.specs.declared.ids.LineId.{LineId}
use Rattle.way_network.specs.declared.way.Way.{Way}
use Rattle.way_network.specs.declared.way.Passage.{Passage}
use Rattle.way_network.specs.Edges.{is_used, is_on_edges, line_runs_over}
use Rattle.way_network.specs.Chains.{Network, used_at}
use Rattle.way_network.specs.Segments.{first_of, last_of}

-- a way of a line that is there: at least two points, none of them twice, from a station to a station
pub record IsWay (g : Network) (way : Way) : Type 0 where
  pub line : way.line.0 < g.lines
  pub some_points : 2 ≤ length way.points
  pub known : All (λ p. p < g.points) way.points
  pub simple : IsDistinct eqb way.points
  pub begins : first_of way.points < g.stations
  pub ends : last_of way.points < g.stations

-- no two used edges of one point have one direction
abbrev pub HasOwnDirections : List Point → Network → Type 0
HasOwnDirections points g =
    (a b c : ℕ) → is_used g.ways a b ≡ true → is_used g.ways a c ≡ true → b ≢ c → LieInOneDirection (point_at points a) (point_at points b) (point_at points c) → ⊥

-- the ends of each used edge lie apart
abbrev pub HasEndsApart : List Point → Network → Type 0
HasEndsApart points g = (a b : ℕ) → is_used g.ways a b ≡ true → point_at points b ≢ point_at points a

-- there are at most so many different lines on all ways together
abbrev pub HasFewLines : ℕ → Network → Type 0
HasFewLines most g = (known : List LineId) × (length known ≤ most) × All (λ (w : Way). Contains known w.line) g.ways

-- the network lies over these points of the plane, of which the first are the stations
pub record IsNetwork (points : List Point) (g : Network) : Type 0 where
  pub count : g.points ≡ length points
  pub few_points : length points ≤ 100000
  pub stations : g.stations ≤ g.points
  pub few_lines : g.lines < 2 ^ 32
  pub in_plane : All IsInPlane points
  pub ways : All (IsWay g) g.ways
  pub directions : HasOwnDirections points g
  pub apart : HasEndsApart points g
  pub served : (p : ℕ) → p < g.stations → is_on_edges (used_at g p) ≡ true
  pub known_lines : HasFewLines 1000 g

-- a passage of the network: its line runs over both edges
pub record IsPassage (g : Network) (x : Passage) : Type 0 where
  pub known : x.at < g.points
  pub line : x.line.0 < g.lines
  pub comes : line_runs_over g.ways x.at x.from x.line.0 ≡ true
  pub goes : line_runs_over g.ways x.at x.to x.line.0 ≡ true
