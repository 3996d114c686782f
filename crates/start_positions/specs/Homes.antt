-- The homes of nodes on the grid.
use Rattle.std.specs.Prelude.{◌≡◌, ℕ, ◌+◌, ◌*◌, ◌==◌, ◌||◌, ◌&&◌, nat_lt, Bool, true, not, ℤ, pos, ◌-ℤ◌, ◌*ℤ◌, unsigned_abs, List, [], ◌∷◌, ◌++◌, length, map, filter}
use Rattle.std.specs.List.{list_all, range_with_len}
use Rattle.least_path.specs.Least.{least_by}
use Rattle.graph_core.specs.declared.parts.GraphParts.{GraphParts}
use Rattle.octi_grid.specs.declared.point.GridPoint.{GridPoint}
use Rattle.octi_grid.specs.Legal.{are_distinct, is_among, is_even}
use Rattle.grid_board.specs.declared.bounds.Bounds.{Bounds}
use Rattle.grid_board.specs.Boards.{cells_of, contains, point_of, AreBounds}
use Rattle.grid_board.specs.Points.{is_lower}
use Rattle.start_positions.specs.declared.placing.Offset.{Offset}
use Rattle.start_positions.specs.declared.placing.Placing.{Placing}
use Rattle.start_positions.specs.Cells.{cell_side, grid_of}

-- the square of how far two coordinates lie apart, one of the grid and one of the plane, in parts of a fineness of a decimetre
abbrev pub square_apart : ℕ → ℕ → ℤ → ℕ → ℕ
square_apart side fineness g at = unsigned_abs (g *ℤ pos side -ℤ pos (at * fineness)) * unsigned_abs (g *ℤ pos side -ℤ pos (at * fineness))

-- the square of the distance of a grid point from where the node lies
abbrev pub distance2 : ℕ → ℕ → Offset → GridPoint → ℕ
distance2 side fineness o g = square_apart side fineness g.x o.east + square_apart side fineness g.y o.north

-- of two points the first is nearer, or as near and not above, or in the same row and not right of the other
abbrev pub is_no_farther : ℕ → ℕ → Offset → GridPoint → GridPoint → Bool
is_no_farther side fineness o p q =
    nat_lt (distance2 side fineness o p) (distance2 side fineness o q)
    || ((distance2 side fineness o p == distance2 side fineness o q) && not (is_lower q p))

-- the points within bounds
abbrev pub points_within : Bounds → List GridPoint
points_within b = map (point_of b) (range_with_len 0 (cells_of b))

-- the grid points where a node may get its home: even ones that are not used
abbrev pub free_points : Bounds → List GridPoint → List GridPoint
free_points grid used = filter (λ p. is_even p && not (is_among used p)) (points_within grid)

-- the home of a node: of these the nearest one, among equals the one of the least y, then of the least x
abbrev pub home_of : Bounds → ℕ → ℕ → List GridPoint → Offset → GridPoint
home_of grid side fineness used o = least_by (is_no_farther side fineness o) (record { x = grid.left; y = grid.bottom }) (free_points grid used)

-- the homes of further nodes, one after another
abbrev pub homes_beside : Bounds → ℕ → ℕ → List GridPoint → List Offset → List GridPoint
homes_beside grid side fineness used [] = []
homes_beside grid side fineness used (o ∷ os) =
    home_of grid side fineness used o ∷ homes_beside grid side fineness (used ++ home_of grid side fineness used o ∷ []) os

-- the homes of nodes that are put at these offsets
abbrev pub homes_of : Bounds → ℕ → ℕ → List Offset → List GridPoint
homes_of grid side fineness offsets = homes_beside grid side fineness [] offsets

-- homes on a grid
abbrev pub placing_on : Bounds → List GridPoint → Placing
placing_on grid points = record { points = points; left = grid.left; right = grid.right; bottom = grid.bottom; top = grid.top }

-- the placing of a graph's nodes, put at these offsets
abbrev pub placing_at : GraphParts → ℕ → ℕ → List Offset → Placing
placing_at graph cell fineness offsets =
    placing_on (grid_of graph.places (cell_side graph.places cell) fineness)
    (homes_of (grid_of graph.places (cell_side graph.places cell) fineness) (cell_side graph.places cell) fineness offsets)

-- the grid of a placing
abbrev pub grid_under : Placing → Bounds
grid_under p = record { left = p.left; right = p.right; bottom = p.bottom; top = p.top }

-- a placing from which the segments of a graph can be routed: its homes are one a node, distinct, even and on its grid
pub record IsPlacing (graph : GraphParts) (placing : Placing) : Type 0 where
  pub grid : AreBounds (grid_under placing)
  pub one_each : length placing.points ≡ length graph.kinds
  pub distinct : are_distinct placing.points ≡ true
  pub even : list_all is_even placing.points ≡ true
  pub inside : list_all (contains (grid_under placing)) placing.points ≡ true
