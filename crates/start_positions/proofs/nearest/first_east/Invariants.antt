use Rattle.std.proofs.Common.{◌≤ℤ◌, ◌-ℤ◌, pos}
use Rattle.std.specs.Prelude.{unsigned_abs}
use Rattle.octi_grid.specs.declared.point.GridPoint.{GridPoint}
use Rattle.grid_board.specs.Boards.{parts_of}
use Rattle.start_positions.specs.Nearest.{IsEast, IsEvenLine}
use Rattle.start_positions.proofs.nearest.first_east.Given as goal

-- the open points are no nearer than the column that is looked at
abbrev pub invariant-loop-x : goal.invariant-loop-x
invariant-loop-x l = record {
  even : IsEvenLine l.x;
  past : l.from ≤ℤ l.x;
  rest : (q : GridPoint) → IsEast (parts_of l.board) l.y l.from q → l.x ≤ℤ q.x;
}

abbrev pub decreases-loop-x : goal.decreases-loop-x
decreases-loop-x l = unsigned_abs (pos 2002 -ℤ l.x)
