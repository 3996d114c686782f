use Rattle.std.proofs.Common.{◌≡◌, drop}
use Rattle.grid_board.specs.Boards.{empty_board, parts_of}
use Rattle.segment_router.specs.Routes.{with_nodes}
use Rattle.segment_router.proofs.routing.board_with.Given as goal

-- the board with the nodes so far, and those that are left
abbrev pub invariant-loop-home : goal.invariant-loop-home
invariant-loop-home l = record {
  nodes : with_nodes (parts_of l.board) (drop l.home-index l.homes) ≡ with_nodes (empty_board l.fn.grid) l.homes;
  bounds : (parts_of l.board).bounds ≡ l.fn.grid;
}
