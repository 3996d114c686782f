use Rattle.std.proofs.Common.{◌≡◌, All, map, take}
use Rattle.fixed_plane.specs.Plane.{IsInPlane}
use Rattle.shape_track.specs.Samples.{point_at}
use Rattle.feed_courses.proofs.used.points_at.Given as goal

abbrev pub invariant-loop-place : goal.invariant-loop-place
invariant-loop-place l = record {
  points : l.found.items ≡ map (point_at l.points) (take l.place-index l.places);
  in_plane : All IsInPlane l.found.items;
}
