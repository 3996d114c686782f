use Rattle.std.proofs.Common.{◌<◌, ◌≤◌, ◌-◌, ◌*◌}
use Rattle.shape_track.proofs.piece.root_above.Given as goal

abbrev pub invariant-loop-root : goal.invariant-loop-root
invariant-loop-root l = (0 < l.root) × (l.root ≤ 8) × ((l.root - 1) * (l.root - 1) ≤ l.square)

abbrev pub decreases-loop-root : goal.decreases-loop-root
decreases-loop-root l = 8 - l.root
