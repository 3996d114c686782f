use Rattle.std.proofs.Common.{◌≡◌, ◌+◌, ◌++◌, drop, unsigned_abs}
use Rattle.track_net.specs.Nearness.{point_at}
use Rattle.geo_lines.specs.Shifts.{shift_of, IsWithin}
use Rattle.geo_lines.specs.Courses.{shifted_path}
use Rattle.geo_lines.proofs.Steps.{path_behind}
use Rattle.geo_lines.proofs.path.put_path.Given as goal

-- the corners so far, and those of the points that are left, are the path
abbrev pub invariant-loop-i : goal.invariant-loop-i
invariant-loop-i l = record {
  whole : l.path.items ++ path_behind l.width (drop l.i l.points) ≡ shifted_path l.k l.points;
  before : l.before ≡ shift_of l.width (point_at l.points l.i) (point_at l.points (l.i + 1));
  beside : IsWithin (unsigned_abs l.width) l.before;
}
