-- The nearest of the open points of a board.
use Rattle.std.specs.Prelude.{◌≡◌, ℕ, ◌+◌, ◌*◌, ◌%◌, ◌<◌, ◌≤◌, ◌⊎◌, ◌&&◌, Bool, true, not, ℤ, pos, ◌-ℤ◌, ◌*ℤ◌, ◌≤ℤ◌, ◌<ℤ◌, unsigned_abs, List, filter, Option, Some, None, if◌then◌else◌}
use Rattle.octi_grid.specs.declared.point.GridPoint.{GridPoint}
use Rattle.octi_grid.specs.Legal.{is_among, is_even}
use Rattle.least_path.specs.Least.{least_by}
use Rattle.grid_board.specs.declared.bounds.Bounds.{Bounds}
use Rattle.grid_board.specs.Boards.{is_inside, with_node, BoardParts}
use Rattle.start_positions.specs.declared.spot.Spot.{Spot}
use Rattle.start_positions.specs.declared.placing.Offset.{Offset}
use Rattle.start_positions.specs.Cells.{ceil_quotient}
use Rattle.start_positions.specs.Homes.{distance2, is_no_farther, points_within, square_apart}

-- a point of the board where a node may get its home: an even one that is no node's
abbrev pub is_open : BoardParts → GridPoint → Bool
is_open board p = is_inside board p && (is_even p && not (board.is_node p))

-- of two points the first is no farther from a spot
abbrev pub no_farther : Spot → GridPoint → GridPoint → Bool
no_farther s p q = is_no_farther s.side s.fineness s.offset p q

-- the home at a spot of a board: the nearest open point
abbrev pub home_on : BoardParts → Spot → GridPoint
home_on board s =
    least_by (no_farther s) (record { x = board.bounds.left; y = board.bounds.bottom })
    (filter (λ p. is_even p && not (board.is_node p)) (points_within board.bounds))

-- the nearer of a point and another, where there is another
abbrev pub nearer_or : Spot → GridPoint → Option GridPoint → GridPoint
nearer_or s p None = p
nearer_or s p (Some q) = if no_farther s p q then p else q

-- the nearer of two points, where there are two
abbrev pub nearer_of : Spot → Option GridPoint → Option GridPoint → Option GridPoint
nearer_of s None other = other
nearer_of s (Some p) other = Some (nearer_or s p other)

-- an even column or row
abbrev pub IsEvenLine : ℤ → Type 0
IsEvenLine z = unsigned_abs z % 2 ≡ 0

-- the first even column or row at a place or past it
pub record IsLineAt (side fineness at : ℕ) (line : ℤ) : Type 0 where
  pub even : IsEvenLine line
  pub least : pos 0 ≤ℤ line
  pub most : line ≤ℤ pos (ceil_quotient (at * fineness) side + 1)
  pub past : pos (at * fineness) ≤ℤ (line *ℤ pos side)
  pub before : ((line -ℤ pos 2) *ℤ pos side) ≤ℤ pos (at * fineness)

-- a spot whose distances can be counted
pub record IsInRange (s : Spot) : Type 0 where
  pub fine : s.fineness ≤ 16
  pub east : s.offset.east ≤ 600000000
  pub north : s.offset.north ≤ 600000000

-- a spot lies on the grid, and its column and row are those at it or past it
pub record IsSpot (grid : Bounds) (s : Spot) : Type 0 where
  pub in_range : IsInRange s
  pub some : 0 < s.side
  pub column : IsLineAt s.side s.fineness s.offset.east s.column
  pub row : IsLineAt s.side s.fineness s.offset.north s.row
  pub left : grid.left ≤ℤ s.column
  pub right : s.column ≤ℤ grid.right
  pub bottom : grid.bottom ≤ℤ s.row
  pub top : s.row ≤ℤ grid.top

-- an offset lies within a grid, a column and a row before its rim
pub record IsOver (grid : Bounds) (side fineness : ℕ) (o : Offset) : Type 0 where
  pub wide : o.east ≤ 600000000
  pub high : o.north ≤ 600000000
  pub columns : ceil_quotient (o.east * fineness) side ≤ 1600
  pub rows : ceil_quotient (o.north * fineness) side ≤ 1600
  pub east : pos (ceil_quotient (o.east * fineness) side + 1) ≤ℤ grid.right
  pub north : pos (ceil_quotient (o.north * fineness) side + 1) ≤ℤ grid.top

-- the open points of a row, those of it at a column or east of it, and those at a column or west of it
pub record IsInRow (board : BoardParts) (y : ℤ) (p : GridPoint) : Type 0 where
  pub is_open : is_open board p ≡ true
  pub row : p.y ≡ y

pub record IsEast (board : BoardParts) (y from : ℤ) (p : GridPoint) : Type 0 where
  pub in_row : IsInRow board y p
  pub past : from ≤ℤ p.x

pub record IsWest (board : BoardParts) (y from : ℤ) (p : GridPoint) : Type 0 where
  pub in_row : IsInRow board y p
  pub past : p.x ≤ℤ from

-- the open points from a row to another, this one left out
pub record IsFromRow (board : BoardParts) (low high : ℤ) (p : GridPoint) : Type 0 where
  pub is_open : is_open board p ≡ true
  pub above : low ≤ℤ p.y
  pub below : p.y <ℤ high

-- the open points in a row or above it, and those below it
pub record IsAbove (board : BoardParts) (y : ℤ) (p : GridPoint) : Type 0 where
  pub is_open : is_open board p ≡ true
  pub above : y ≤ℤ p.y

pub record IsBelow (board : BoardParts) (y : ℤ) (p : GridPoint) : Type 0 where
  pub is_open : is_open board p ≡ true
  pub below : p.y <ℤ y

-- there is a point, which is no farther from a spot than another
abbrev pub IsNoFarther : Spot → Option GridPoint → GridPoint → Type 0
IsNoFarther s None q = ⊥
IsNoFarther s (Some p) q = no_farther s p q ≡ true

-- there is a point, which is not east of another, or not west of it
abbrev pub IsNotEast : Option GridPoint → GridPoint → Type 0
IsNotEast None q = ⊥
IsNotEast (Some p) q = p.x ≤ℤ q.x

abbrev pub IsNotWest : Option GridPoint → GridPoint → Type 0
IsNotWest None q = ⊥
IsNotWest (Some p) q = q.x ≤ℤ p.x

-- the first open point of a row going east, and going west
pub record IsFirstEast (board : BoardParts) (y from : ℤ) (found : Option GridPoint) : Type 0 where
  pub stands : (p : GridPoint) → found ≡ Some p → IsEast board y from p
  pub first : (q : GridPoint) → IsEast board y from q → IsNotEast found q

pub record IsFirstWest (board : BoardParts) (y from : ℤ) (found : Option GridPoint) : Type 0 where
  pub stands : (p : GridPoint) → found ≡ Some p → IsWest board y from p
  pub first : (q : GridPoint) → IsWest board y from q → IsNotWest found q

-- the nearest to a spot of one that was found before and of all such points
pub record IsNearest (s : Spot) (Such : GridPoint → Type 0) (before found : Option GridPoint) : Type 0 where
  pub stands : (p : GridPoint) → found ≡ Some p → (before ≡ Some p) ⊎ Such p
  pub as_before : (q : GridPoint) → before ≡ Some q → IsNoFarther s found q
  pub least : (q : GridPoint) → Such q → IsNoFarther s found q

-- the row of a point can't make it nearer than the one that was found
abbrev pub IsTooFar : Spot → Option GridPoint → ℤ → Type 0
IsTooFar s None y = ⊥
IsTooFar s (Some p) y = distance2 s.side s.fineness s.offset p < square_apart s.side s.fineness y s.offset.north

-- the nodes of a board are those that have their homes, as far as even points go
abbrev pub HasHomes : BoardParts → List GridPoint → Type 0
HasHomes board homes = (p : GridPoint) → is_inside board p ≡ true → is_even p ≡ true → board.is_node p ≡ is_among homes p

-- a node gets its home on a board, where the home is open
abbrev pub with_home : BoardParts → GridPoint → BoardParts
with_home board home = if is_open board home then with_node board home else board
