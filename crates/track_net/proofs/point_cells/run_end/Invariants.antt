use Rattle.std.proofs.Common.{◌≡◌, ℕ, ◌<◌, ◌≤◌}
use Rattle.track_net.specs.Nearness.{point_at}
use Rattle.track_net.specs.Cells.{cell_of}
use Rattle.track_net.proofs.point_cells.run_end.Given as goal

abbrev pub invariant-loop-end : goal.invariant-loop-end
invariant-loop-end l = (k : ℕ) → l.start ≤ k → k < l.end → cell_of l.size (point_at l.points k) ≡ l.cell
