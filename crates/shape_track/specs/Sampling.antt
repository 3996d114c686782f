-- What is kept of points that come one by one.
use Rattle.std.specs.Prelude.{ℕ, ◌+◌, if◌then◌else◌, List, [], ◌∷◌, ◌++◌, Option, Some}
use Rattle.map_base.specs.declared.point.Point.{Point}
use Rattle.shape_track.specs.declared.sampler.Sampler.{Sampler}
use Rattle.shape_track.specs.Samples.{is_repeat}

-- the samples that are kept, the point that came last, and how many samples were counted
pub record Kept : Type 0 where
  pub points : List Point
  pub before : Option Point
  pub count : ℕ

abbrev pub kept_by : Sampler → Kept
kept_by s = record { points = s.kept.items; before = s.before; count = s.count }

-- one more point: it is kept and counted unless it is a repeat
abbrev pub with_point : Kept → Point → Kept
with_point k p = record {
  points = (if is_repeat k.before p then k.points else k.points ++ p ∷ []);
  before = Some p;
  count = (if is_repeat k.before p then k.count else k.count + 1);
}

-- more points, one by one
abbrev pub with_points : Kept → List Point → Kept
with_points k [] = k
with_points k (p ∷ ps) = with_points (with_point k p) ps
