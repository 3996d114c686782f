use Rattle.std.proofs.Common.{◌≡◌, ◌+◌, ◌%◌, false}
use Rattle.std.specs.List.{list_any, range_with_len}
use Rattle.track_net.specs.Nearness.{has_near}
use Rattle.track_net.specs.Cells.{listed, cell_around}
use Rattle.track_net.proofs.point_cells.near_around.Given as goal

abbrev pub invariant-loop-i : goal.invariant-loop-i
invariant-loop-i l =
    list_any (λ i. has_near l.within (listed l.cells (cell_around l.center ((i + 4) % 9))) l.at) (range_with_len 0 l.i) ≡ false
