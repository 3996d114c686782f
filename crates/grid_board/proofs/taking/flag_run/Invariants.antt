use Rattle.std.proofs.Common.{◌≡◌, length, replicate}
use Rattle.octi_grid.specs.Ways.{after}
use Rattle.grid_board.specs.Boards.{cells_of, doubled_bounds}
use Rattle.grid_board.specs.Taking.{behind, flagged}
use Rattle.grid_board.proofs.taking.flag_run.Given as goal

abbrev pub invariant-loop-count : goal.invariant-loop-count
invariant-loop-count l = record {
  at : l.at ≡ after l.fn.start (replicate l.count l.run.dir);
  flags : l.taken ≡ flagged (doubled_bounds l.bounds) l.fn.flag l.initial.taken (behind l.fn.start (replicate l.count l.run.dir));
  each : length l.taken ≡ cells_of (doubled_bounds l.bounds);
}
