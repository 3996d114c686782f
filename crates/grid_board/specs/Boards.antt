-- Boards: a part of the grid, the points of nodes, and the doubled points that walks have taken.
use Rattle.std.specs.Prelude.{◌≡◌, ℕ, ◌+◌, ◌*◌, ◌/◌, ◌%◌, ◌||◌, ◌&&◌, Bool, true, false, not, ℤ, pos, negsuc, ◌+ℤ◌, ◌-ℤ◌, ◌≤ℤ◌, int_le, unsigned_abs, List, length, slice_index_or}
use Rattle.octi_grid.specs.declared.dir.Dir.{Dir}
use Rattle.octi_grid.specs.declared.point.GridPoint.{GridPoint}
use Rattle.octi_grid.specs.Ways.{are_one, doubled, step_from}
use Rattle.octi_grid.specs.Costs.{step_cost}
use Rattle.octi_grid.specs.Walks.{PlainWalk, doubled_of, end_point}
use Rattle.octi_grid.specs.Legal.{is_among, is_even}
use Rattle.grid_board.specs.declared.bounds.Bounds.{Bounds}

-- a board, by what it shows: its bounds, which points are those of nodes, and which doubled points are taken
pub record BoardParts : Type 0 where
  pub bounds : Bounds
  pub is_node : GridPoint → Bool
  pub is_taken : GridPoint → Bool

-- a coordinate lies between two others, or on one of them
abbrev pub is_between : ℤ → ℤ → ℤ → Bool
is_between low z high = int_le low z && int_le z high

-- the point lies within bounds
abbrev pub contains : Bounds → GridPoint → Bool
contains b p = is_between b.left p.x b.right && is_between b.bottom p.y b.top

-- the point lies on the board
abbrev pub is_inside : BoardParts → GridPoint → Bool
is_inside board p = contains board.bounds p

-- a board without nodes and walks
abbrev pub empty_board : Bounds → BoardParts
empty_board bounds = record { bounds = bounds; is_node = λ p. false; is_taken = λ d. false }

-- a board with one more node
abbrev pub with_node : BoardParts → GridPoint → BoardParts
with_node board at = record board { is_node = λ p. are_one at p || board.is_node p }

-- a board with one more walk
abbrev pub with_walk : BoardParts → PlainWalk → BoardParts
with_walk board walk = record board { is_taken = λ d. is_among (doubled_of walk) d || board.is_taken d }

-- a board on which the node's point `from` has become `to`
abbrev pub with_node_moved : BoardParts → GridPoint → GridPoint → BoardParts
with_node_moved board from to = record board { is_node = λ p. are_one to p || (not (are_one from p) && board.is_node p) }

-- a board without the node at a point
abbrev pub without_node : BoardParts → GridPoint → BoardParts
without_node board at = record board { is_node = λ p. not (are_one at p) && board.is_node p }

-- the doubled point of a point is taken where that is kept, and else as it was
abbrev pub with_kept : Bool → GridPoint → (GridPoint → Bool) → GridPoint → Bool
with_kept is_kept p is_taken d = (is_kept && are_one (doubled p) d) || is_taken d

-- a board without a walk, but for those of its ends that are kept
abbrev pub without_walk : BoardParts → PlainWalk → Bool → Bool → BoardParts
without_walk board walk keeps_start keeps_end =
    record board { is_taken = with_kept keeps_end (end_point walk) (with_kept keeps_start walk.start (λ d. not (is_among (doubled_of walk) d) && board.is_taken d)) }

-- a bound of a board lies within 2,000 either way
pub record IsBound (z : ℤ) : Type 0 where
  pub low : negsuc 1999 ≤ℤ z
  pub high : z ≤ℤ pos 2000

-- the bounds of a board are in range and in order
pub record AreBounds (b : Bounds) : Type 0 where
  pub left : IsBound b.left
  pub right : IsBound b.right
  pub bottom : IsBound b.bottom
  pub top : IsBound b.top
  pub across : b.left ≤ℤ b.right
  pub upwards : b.bottom ≤ℤ b.top

-- what holds of each board: its bounds are in range and in order, nodes stand on it at even points, and where the middle
-- of a step along an axis is taken, so are both its ends
pub record IsBoard (board : BoardParts) : Type 0 where
  pub in_range : AreBounds board.bounds
  pub nodes_inside : (p : GridPoint) → board.is_node p ≡ true → is_inside board p ≡ true
  pub nodes_even : (p : GridPoint) → board.is_node p ≡ true → is_even p ≡ true
  pub ends_taken : (p : GridPoint) (d : Dir) → step_cost d ≡ 4 → board.is_taken (step_from (doubled p) d) ≡ true → board.is_taken (doubled p) ≡ true

-- how many points lie side by side from one bound to another
abbrev pub extent : ℤ → ℤ → ℕ
extent low high = unsigned_abs (high -ℤ low) + 1

-- how many points lie within bounds
abbrev pub cells_of : Bounds → ℕ
cells_of b = extent b.bottom b.top * extent b.left b.right

-- the number of a point within bounds, row by row
abbrev pub cell_of : Bounds → GridPoint → ℕ
cell_of b p = unsigned_abs (p.y -ℤ b.bottom) * extent b.left b.right + unsigned_abs (p.x -ℤ b.left)

-- the point of a number
abbrev pub point_of : Bounds → ℕ → GridPoint
point_of b n = record { x = b.left +ℤ pos (n % extent b.left b.right); y = b.bottom +ℤ pos (n / extent b.left b.right) }

-- the bounds of doubled points
abbrev pub doubled_bounds : Bounds → Bounds
doubled_bounds b = record { left = b.left +ℤ b.left; right = b.right +ℤ b.right; bottom = b.bottom +ℤ b.bottom; top = b.top +ℤ b.top }

-- flags by the numbers of points, as a test of points
abbrev pub is_marked : Bounds → List Bool → GridPoint → Bool
is_marked b flags p = contains b p && slice_index_or flags (cell_of b p) false

-- what a board holds: its bounds, and flags for its points and for its doubled points, row by row
pub record BoardFlags : Type 0 where
  pub bounds : Bounds
  pub nodes : List Bool
  pub taken : List Bool

-- what a board shows: a point is a node's, and a doubled point taken, where its flag is raised
unfoldable pub parts_of : BoardFlags → BoardParts
parts_of b = record { bounds = b.bounds; is_node = is_marked b.bounds b.nodes; is_taken = is_marked (doubled_bounds b.bounds) b.taken }

-- there is a flag for each point and for each doubled point
pub record IsKept (b : BoardFlags) : Type 0 where
  pub points : length b.nodes ≡ cells_of b.bounds
  pub doubled_points : length b.taken ≡ cells_of (doubled_bounds b.bounds)
  pub board : IsBoard (parts_of b)
