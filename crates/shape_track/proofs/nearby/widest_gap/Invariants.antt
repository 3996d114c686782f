use Rattle.std.proofs.Common.{ℕ, ◌+◌, ◌<◌, ◌≤◌}
use Rattle.shape_track.specs.Snaps.{sample_at}
use Rattle.shape_track.specs.BestPlaces.{apart_of}
use Rattle.shape_track.proofs.nearby.widest_gap.Given as goal

abbrev pub invariant-loop-place : goal.invariant-loop-place
invariant-loop-place l = record {
  some : 0 < l.gap;
  bound : l.gap ≤ 600000000;
  within : (k : ℕ) → k + 1 < l.place → apart_of (sample_at l.samples k) (sample_at l.samples (k + 1)) ≤ l.gap;
}
