-- Drawings on a board.
use Rattle.std.specs.Prelude.{◌≡◌, true, List}
use Rattle.std.specs.List.{list_all}
use Rattle.graph_core.specs.declared.parts.GraphParts.{GraphParts}
use Rattle.octi_grid.specs.Walks.{points_of, PlainWalk}
use Rattle.grid_board.specs.declared.bounds.Bounds.{Bounds}
use Rattle.grid_board.specs.Boards.{contains, AreBounds}
use Rattle.drawing_weights.specs.Drawn.{IsDrawn}

-- a legal drawing, with a walk for each segment, lies on a board
pub record IsOnBoard (graph : GraphParts) (bounds : Bounds) (walks : List PlainWalk) : Type 0 where
  pub bounds_fit : AreBounds bounds
  pub drawn : IsDrawn graph walks
  pub within : list_all (λ (w : PlainWalk). list_all (contains bounds) (points_of w)) walks ≡ true
