-- The doubled points of a walk, one after another, and their flags.
use Rattle.std.specs.Prelude.{Bool, List, [], ◌∷◌, slice_set}
use Rattle.octi_grid.specs.declared.dir.Dir.{Dir}
use Rattle.octi_grid.specs.declared.point.GridPoint.{GridPoint}
use Rattle.octi_grid.specs.Ways.{doubled, step_from}
use Rattle.grid_board.specs.declared.bounds.Bounds.{Bounds}
use Rattle.grid_board.specs.Boards.{cell_of}

-- the doubled points of a way behind its start
abbrev pub behind : GridPoint → List Dir → List GridPoint
behind p [] = []
behind p (d ∷ ds) = step_from (doubled p) d ∷ doubled (step_from p d) ∷ behind (step_from p d) ds

-- flags by the numbers of points, after those of some points were raised or lowered
abbrev pub flagged : Bounds → Bool → List Bool → List GridPoint → List Bool
flagged b flag flags [] = flags
flagged b flag flags (p ∷ ps) = flagged b flag (slice_set flags (cell_of b p) flag) ps
