use Rattle.std.proofs.Common.{◌≤ℤ◌, ◌+ℤ◌, pos}
use Rattle.std.specs.Prelude.{unsigned_abs}
use Rattle.octi_grid.specs.declared.point.GridPoint.{GridPoint}
use Rattle.grid_board.specs.Boards.{parts_of}
use Rattle.start_positions.specs.Nearest.{IsWest, IsEvenLine}
use Rattle.start_positions.proofs.nearest.first_west.Given as goal

-- the open points are no nearer than the column that is looked at
abbrev pub invariant-loop-x : goal.invariant-loop-x
invariant-loop-x l = record {
  even : IsEvenLine l.x;
  past : l.x ≤ℤ l.from;
  rest : (q : GridPoint) → IsWest (parts_of l.board) l.y l.from q → q.x ≤ℤ l.x;
}

abbrev pub decreases-loop-x : goal.decreases-loop-x
decreases-loop-x l = unsigned_abs (l.x +ℤ pos 2002)
