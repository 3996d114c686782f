-- Walks step by step.
use Rattle.std.specs.Prelude.{◌≡◌, ◌-◌, ℕ, List, take, drop}
use Rattle.octi_grid.specs.declared.dir.Dir.{Dir}
use Rattle.octi_grid.specs.declared.point.GridPoint.{GridPoint}
use Rattle.octi_grid.specs.Ways.{points_from}
use Rattle.octi_grid.specs.Walks.{IsWalk, PlainWalk}
use Rattle.run_laying.specs.Pieces.{point_at}

-- the points of a walk of these steps, in order
pub record IsTrack (points : List GridPoint) (steps : List Dir) : Type 0 where
  pub walk : IsWalk (record { start = point_at points 0; steps = steps })
  pub points_are : points ≡ points_from (point_at points 0) steps

-- what lies on it from one place to another
abbrev pub piece_along : List GridPoint → List Dir → ℕ → ℕ → PlainWalk
piece_along points steps a b = record { start = point_at points a; steps = take (b - a) (drop a steps) }
