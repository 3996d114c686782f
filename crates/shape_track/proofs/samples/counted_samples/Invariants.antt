use Rattle.std.proofs.Common.{◌≡◌, ◌≤◌, ◌-◌, [], drop, None}
use Rattle.shape_track.specs.Samples.{cut_points}
use Rattle.shape_track.specs.Sampling.{kept_by, with_points}
use Rattle.shape_track.proofs.samples.counted_samples.Given as goal

abbrev pub invariant-loop-index : goal.invariant-loop-index
invariant-loop-index l = record {
  kept : with_points (kept_by l.sampler) (cut_points l.near (drop (l.index - 1) l.points))
      ≡ with_points (record { points = []; before = None; count = l.count }) (cut_points l.near l.points);
  counted : l.sampler.count ≤ l.most;
  most : l.sampler.most ≡ l.most;
}
