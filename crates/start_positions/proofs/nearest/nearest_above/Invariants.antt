use Rattle.std.proofs.Common.{◌≤ℤ◌, ◌-ℤ◌, pos, None}
use Rattle.std.specs.Prelude.{unsigned_abs}
use Rattle.grid_board.specs.Boards.{parts_of}
use Rattle.start_positions.specs.Nearest.{IsEvenLine, IsFromRow, IsNearest}
use Rattle.start_positions.proofs.nearest.nearest_above.Given as goal

-- the nearest of the rows so far
abbrev pub invariant-loop-y : goal.invariant-loop-y
invariant-loop-y l = record {
  even : IsEvenLine l.y;
  past : l.spot.row ≤ℤ l.y;
  nearest : IsNearest l.spot (IsFromRow (parts_of l.board) l.spot.row l.y) None l.found;
}

abbrev pub decreases-loop-y : goal.decreases-loop-y
decreases-loop-y l = unsigned_abs (pos 2002 -ℤ l.y)
