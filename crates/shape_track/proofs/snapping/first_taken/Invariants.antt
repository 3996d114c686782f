use Rattle.std.proofs.Common.{◌≡◌, ℕ, ◌-◌, ◌<◌, ◌≤◌, false, length}
use Rattle.shape_track.specs.Sweeps.{taken_at}
use Rattle.shape_track.proofs.snapping.first_taken.Given as goal

abbrev pub invariant-loop-place : goal.invariant-loop-place
invariant-loop-place l = record {
  above : l.floor ≤ l.place;
  within : l.place < length l.row;
  passed : (other : ℕ) → l.floor ≤ other → other < l.place → taken_at l.row other ≡ false;
}

abbrev pub decreases-loop-place : goal.decreases-loop-place
decreases-loop-place l = length l.row - l.place
