-- Drawings that are weighed.
use Rattle.std.specs.Prelude.{◌≡◌, ◌≤◌, true, List, length, map}
use Rattle.std.specs.List.{range_with_len}
use Rattle.graph_core.specs.declared.parts.GraphParts.{GraphParts}
use Rattle.octi_grid.specs.declared.point.GridPoint.{GridPoint}
use Rattle.octi_grid.specs.Walks.{PlainWalk}
use Rattle.octi_grid.specs.Legal.{legal}
use Rattle.drawing_weights.specs.Weights.{point_of}

-- a legal drawing, with a walk for each segment
pub record IsDrawn (graph : GraphParts) (walks : List PlainWalk) : Type 0 where
  pub each : length walks ≡ length graph.ends
  pub legal : legal graph walks ≡ true

-- the walk has at most so many steps as a board has points
abbrev pub IsShort : PlainWalk → Type 0
IsShort w = length w.steps ≤ 16008001

-- where walks put all nodes
abbrev pub points_all : GraphParts → List PlainWalk → List GridPoint
points_all graph walks = map (point_of graph walks) (range_with_len 0 (length graph.kinds))
