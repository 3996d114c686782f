use Rattle.std.proofs.Common.{◌≡◌, true}
use Rattle.grid_board.specs.Boards.{contains}
use Rattle.grid_board.proofs.Ways.{within_board}
use Rattle.walk_tests.proofs.boards.step_on.Goals as goal

pub of_step-requires-clause-start : goal.of_step-requires-clause-start
of_step-requires-clause-start g c =
    let inside : contains c.bounds-bounds.result c.args.start ≡ true = cc in
    within_board c.bounds-bounds.result c.args.start c.bounds-bounds.ensures.in_range inside
