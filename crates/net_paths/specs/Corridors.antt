-- Corridors: what an edge of a net costs.
use Rattle.std.specs.Prelude.{ℕ, ◌*◌, ◌≤◌, Bool, ◌&&◌, if◌then◌else◌, List}
use Rattle.map_base.specs.declared.point.Point.{Point}
use Rattle.fixed_plane.specs.Measures.{dist2_of}
use Rattle.track_net.specs.Nearness.{has_near}
use Rattle.track_net.specs.Cells.{BucketParts}

-- a point lies in the corridor: it is nearer than four times `near` to some sample of it
abbrev pub is_in_corridor : ℕ → List Point → Point → Bool
is_in_corridor near corridor p = has_near (4 * near) corridor p

-- the cost of an edge: the square of its length where both its ends lie in the corridor, else eight times that
abbrev pub edge_cost : ℕ → List Point → Point → Point → ℕ
edge_cost near corridor p q = if is_in_corridor near corridor p && is_in_corridor near corridor q then dist2_of p q else 8 * dist2_of p q

-- a corridor, as contracts see it: `near`, and its samples
pub record CorridorParts : Type 0 where
  pub near : ℕ
  pub samples : List Point

-- cells are as wide as a corridor reaches
pub record IsWide (near : ℕ) (cells : BucketParts) : Type 0 where
  pub near_high : near ≤ 20000
  pub wide : 4 * near ≤ cells.size
