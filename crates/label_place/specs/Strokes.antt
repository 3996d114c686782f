-- The drawn points of walks.
use Rattle.std.specs.Prelude.{ℕ, ◌*ℤ◌, ◌+ℤ◌, ◌-ℤ◌, pos, List, [], ◌∷◌, ◌++◌, map}
use Rattle.std.specs.List.{range_with_len}
use Rattle.octi_grid.specs.declared.dir.Dir.{Dir}
use Rattle.octi_grid.specs.declared.point.GridPoint.{GridPoint}
use Rattle.octi_grid.specs.Ways.{east_of, north_of, step_from}
use Rattle.octi_grid.specs.Walks.{PlainWalk}
use Rattle.line_offsets.specs.declared.corner.Corner.{Corner}
use Rattle.line_offsets.specs.Shifts.{drawn}

-- a point, moved t units along each axis in which a direction goes
abbrev pub point_on : Corner → Dir → ℕ → Corner
point_on start d t = record { x = start.x +ℤ (pos t *ℤ east_of d); y = start.y -ℤ (pos t *ℤ north_of d) }

-- a step is drawn from 0 to 100 units along
unfoldable pub units : List ℕ
units = range_with_len 0 101

-- the drawn points of a step
abbrev pub step_points : Corner → Dir → List Corner
step_points start d = map (point_on start d) units

-- the drawn points of steps from a grid point
abbrev pub way_points : GridPoint → List Dir → List Corner
way_points p [] = []
way_points p (d ∷ ds) = step_points (drawn p) d ++ way_points (step_from p d) ds

-- the drawn points of a walk
abbrev pub drawn_points : PlainWalk → List Corner
drawn_points w = way_points w.start w.steps
