use Rattle.std.proofs.Common.{◌≡◌, true, drop, length}
use Rattle.std.specs.List.{list_all}
use Rattle.octi_grid.specs.Ways.{points_from}
use Rattle.octi_grid.specs.Walks.{doubled_of}
use Rattle.octi_grid.specs.Runs.{steps_of}
use Rattle.grid_board.specs.Boards.{cells_of, contains, doubled_bounds}
use Rattle.grid_board.specs.Taking.{behind, flagged}
use Rattle.grid_board.proofs.taking.flag_walk.Given as goal

abbrev pub invariant-loop-run : goal.invariant-loop-run
invariant-loop-run l = record {
  flags : flagged (doubled_bounds l.bounds) l.fn.flag l.taken (behind l.at (steps_of (drop l.run-index l.run-items))) ≡ flagged (doubled_bounds l.bounds) l.fn.flag l.fn.taken (doubled_of l.walk);
  inside : list_all (contains l.bounds) (points_from l.at (steps_of (drop l.run-index l.run-items))) ≡ true;
  each : length l.taken ≡ cells_of (doubled_bounds l.bounds);
}
