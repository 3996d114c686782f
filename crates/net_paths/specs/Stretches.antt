-- Stretch paths: least paths over a net along a corridor.
use Rattle.std.specs.Prelude.{◌≡◌, ℕ, List, ◌∷◌}
use Rattle.map_base.specs.declared.point.Point.{Point}
use Rattle.least_path.specs.Paths.{IsLeastPath}
use Rattle.track_net.specs.Nearness.{point_at}
use Rattle.track_net.specs.Nets.{NetParts, HasEdge}
use Rattle.net_paths.specs.Corridors.{edge_cost}

-- an edge of the net leads from point a to point s, whose number is its label, at its cost
pub record IsStep (near : ℕ) (corridor : List Point) (net : NetParts) (a l s c : ℕ) : Type 0 where
  pub edge : HasEdge net a l
  pub leads_to : s ≡ l
  pub cost : c ≡ edge_cost near corridor (point_at net.points a) (point_at net.points l)

-- the numbers are those of the points of the least path: it begins with the one end, and its further points lead
-- to the other; no path of the net costs less, and of those of its cost it is the first in the order of dictionaries
pub record IsStretchPath (near : ℕ) (corridor : List Point) (net : NetParts) (from to : ℕ) (numbers : List ℕ) : Type 0 where
  pub further : List ℕ
  pub cost : ℕ
  pub begins : numbers ≡ from ∷ further
  pub least : IsLeastPath (IsStep near corridor net) from to further cost
