use Rattle.std.proofs.Common.{◌≡◌, true}
use Rattle.std.specs.List.{list_all}
use Rattle.octi_grid.specs.Walks.{points_of}
use Rattle.grid_board.specs.Boards.{is_inside, parts_of}
use Rattle.walk_tests.proofs.boards.walk_on.Given as goal

abbrev pub invariant-loop-dir : goal.invariant-loop-dir
invariant-loop-dir g l = list_all (is_inside (parts_of l.board)) (points_of l.walk) ≡ true
