use Rattle.std.proofs.Common.{◌≡◌, ◌≤◌}
use Rattle.shape_track.specs.Samples.{part_points}
use Rattle.shape_track.specs.Sampling.{kept_by, with_points}
use Rattle.shape_track.proofs.Keeping.{part_points_from}
use Rattle.shape_track.proofs.sampler.Sampler.keep_piece.Given as goal

abbrev pub invariant-loop-index : goal.invariant-loop-index
invariant-loop-index l = record {
  kept : with_points (kept_by l.self) (part_points_from l.a l.b l.count l.index) ≡ with_points (kept_by l.initial.self) (part_points l.a l.b l.count);
  counted : l.self.count ≤ l.initial.self.most;
  most : l.self.most ≡ l.initial.self.most;
}
