-- A drawing in the making, as it is kept.
use Rattle.std.specs.Prelude.{ℕ, Bool, true, false, List, length, map, replicate, Option, Some, None}
use Rattle.octi_grid.specs.declared.point.GridPoint.{GridPoint}
use Rattle.octi_grid.specs.Walks.{PlainWalk}
use Rattle.grid_board.specs.declared.bounds.Bounds.{Bounds}
use Rattle.grid_board.specs.Boards.{BoardFlags}
use Rattle.run_laying.specs.Laying.{Sketch}

abbrev pub sketch_of : BoardFlags → List GridPoint → List Bool → List (Option PlainWalk) → Sketch
sketch_of board points stand walks = record { bounds = board.bounds; points = points; stand = stand; walks = walks }

-- a whole drawing on its board
abbrev pub whole_sketch : Bounds → List GridPoint → List PlainWalk → Sketch
whole_sketch bounds points walks = record { bounds = bounds; points = points; stand = replicate (length points) true; walks = map (λ (w : PlainWalk). Some w) walks }

-- nothing stands on a board yet
abbrev pub bare_sketch : Bounds → List GridPoint → ℕ → Sketch
bare_sketch bounds points segments = record { bounds = bounds; points = points; stand = replicate (length points) false; walks = replicate segments None }
