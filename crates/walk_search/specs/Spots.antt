-- Where a walk under way stands, and the numbers of these spots.
use Rattle.std.specs.Prelude.{◌≡◌, ℕ, ◌+◌, ◌*◌, ◌/◌, ◌%◌, ◌<◌, ◌==◌, true, if◌then◌else◌, Option, Some, None}
use Rattle.octi_grid.specs.declared.point.GridPoint.{GridPoint}
use Rattle.walk_search.specs.declared.spots.Spot.{Spot}
use Rattle.grid_board.specs.declared.bounds.Bounds.{Bounds}
use Rattle.grid_board.specs.Boards.{cells_of, cell_of, contains, point_of}

-- a spot lies on the board, and has a direction of arrival or 8, and one of ten groups
pub record IsSpot (b : Bounds) (s : Spot) : Type 0 where
  pub inside : contains b s.at ≡ true
  pub arrival : s.arrival < 9
  pub group : s.group < 10

-- the number of the place of a group of walks at a point within bounds
abbrev pub number_of_place : Bounds → GridPoint → ℕ → ℕ
number_of_place b p group = cell_of b p * 10 + group

-- the number of a spot within bounds: the nine spots of a place come one after another
abbrev pub number_of_spot : Bounds → Spot → ℕ
number_of_spot b s = number_of_place b s.at s.group * 9 + s.arrival

-- how many spots there are, which is also the number of what comes before every spot: no seat is chosen yet
abbrev pub spots_of : Bounds → ℕ
spots_of b = 90 * cells_of b

-- the spot of a number, and none before a seat is chosen
abbrev pub spot_of : Bounds → ℕ → Option Spot
spot_of b n =
    if n == spots_of b then None
    else Some (record { at = point_of b (n / 90); arrival = n % 9; group = n / 9 % 10 })
