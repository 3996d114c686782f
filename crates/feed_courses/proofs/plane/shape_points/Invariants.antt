use Rattle.std.proofs.Common.{◌≡◌, ℤ, All, map, take}
use Rattle.fixed_plane.specs.Plane.{IsInPlane, projected}
use Rattle.feed_courses.proofs.plane.shape_points.Given as goal

abbrev pub invariant-loop-place : goal.invariant-loop-place
invariant-loop-place l = record {
  points : l.points.items ≡ map (λ (p : ℤ × ℤ). projected p.0 p.1 l.band) (take l.place-index l.place-items);
  in_plane : All IsInPlane l.points.items;
}
