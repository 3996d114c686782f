use Rattle.std.proofs.Common.{◌≤ℤ◌, ◌+ℤ◌, ◌-ℤ◌, pos}
use Rattle.std.specs.Prelude.{unsigned_abs}
use Rattle.grid_board.specs.Boards.{parts_of}
use Rattle.start_positions.specs.Nearest.{IsEvenLine, IsFromRow, IsNearest}
use Rattle.start_positions.proofs.nearest.nearest_below.Given as goal

-- the nearest of one above and the rows so far
abbrev pub invariant-loop-y : goal.invariant-loop-y
invariant-loop-y l = record {
  even : IsEvenLine l.y;
  past : l.y ≤ℤ (l.spot.row -ℤ pos 2);
  nearest : IsNearest l.spot (IsFromRow (parts_of l.board) (l.y +ℤ pos 2) l.spot.row) l.fn.above l.found;
}

abbrev pub decreases-loop-y : goal.decreases-loop-y
decreases-loop-y l = unsigned_abs (l.y +ℤ pos 2002)
