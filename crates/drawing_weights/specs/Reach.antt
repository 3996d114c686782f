-- The bounds of a drawing, and those that reach past it.
use Rattle.std.specs.Prelude.{ℕ, pos, ◌+ℤ◌, ◌-ℤ◌, List, fold, Option, Some, None, unwrap_or}
use Rattle.std.specs.List.{flat_map}
use Rattle.std.specs.Int.{int_max, int_min}
use Rattle.octi_grid.specs.declared.point.GridPoint.{GridPoint}
use Rattle.octi_grid.specs.Walks.{PlainWalk, points_of}
use Rattle.grid_board.specs.declared.bounds.Bounds.{Bounds}

abbrev pub bounds_at : GridPoint → Bounds
bounds_at p = record { left = p.x; right = p.x; bottom = p.y; top = p.y }

abbrev pub bounds_with : Option Bounds → GridPoint → Option Bounds
bounds_with None p = Some (bounds_at p)
bounds_with (Some b) p = Some (record { left = int_min b.left p.x; right = int_max b.right p.x; bottom = int_min b.bottom p.y; top = int_max b.top p.y })

-- the bounds of all grid points of walks, those of the origin where there is none
abbrev pub bounds_of : List PlainWalk → Bounds
bounds_of walks = unwrap_or (fold bounds_with None (flat_map points_of walks)) (bounds_at (record { x = pos 0; y = pos 0 }))

-- bounds that reach so many steps past the grid points of a drawing
abbrev pub bounds_past : ℕ → List PlainWalk → Bounds
bounds_past margin walks =
    record {
      left = (bounds_of walks).left -ℤ pos margin;
      right = (bounds_of walks).right +ℤ pos margin;
      bottom = (bounds_of walks).bottom -ℤ pos margin;
      top = (bounds_of walks).top +ℤ pos margin;
    }
