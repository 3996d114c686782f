use Rattle.std.proofs.Common.{◌≤◌, ◌-◌, length, take}
use Rattle.track_net.specs.Cells.{AreKept}
use Rattle.track_net.proofs.point_cells.kept_of.Given as goal

abbrev pub invariant-loop-next : goal.invariant-loop-next
invariant-loop-next l = record {
  within : l.next ≤ length l.points;
  kept : AreKept l.size (take l.next l.points) l.cells;
}

abbrev pub decreases-loop-next : goal.decreases-loop-next
decreases-loop-next l = length l.points - l.next
