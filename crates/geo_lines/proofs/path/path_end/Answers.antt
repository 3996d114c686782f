use Rattle.std.proofs.Common.{◌≡◌, ◌+◌, ◌-◌, ◌<◌, ◌≤◌, ℤ, pos, unsigned_abs, w32, w64, to_z, of_z, length, ap, sym, ◌∙◌, subst, arith}
use Rattle.std.proofs.lemmas.Int.{ints, to_z-of_z}
use Rattle.std.proofs.lemmas.List.{get_or_default}
use Rattle.std.proofs.lemmas.List.Elements.{All-get_or}
use Rattle.map_base.specs.declared.point.Point.{Point}
use Rattle.fixed_plane.specs.Plane.{IsInPlane}
use Rattle.track_net.specs.Nearness.{point_at}
use Rattle.geo_lines.specs.Shifts.{moved, width_of}
use Rattle.geo_lines.specs.Courses.{path_end, IsNearPlane}
use Rattle.geo_lines.proofs.Beside.{moved_near}
use Rattle.geo_lines.proofs.Steps.{ends_at, wider}
use Rattle.geo_lines.proofs.path.path_end.Goals as goal

abbrev origin : Point
origin = record { x = pos 0; y = pos 0 }

pub returns-clause-corner : goal.returns-clause-corner
returns-clause-corner c =
    let points = c.args.points.now in
    let w = to_z w64 (of_z w64 c.width_of.result) in
    let n = length points in
    let i = n - 1 - 1 in
    let end : n ≡ i + 1 + 1 = omega (arith, c.requires.course.long) in
    let place : n - 1 ≡ i + 1 = omega (arith, c.requires.course.long) in
    let is : w ≡ width_of c.args.k =
    to_z-of_z w64 c.width_of.result (record { sfits = c.width_of.type_inv }) ∙ c.width_of.ensures.value ∙ ap width_of (to_z-of_z w32 c.args.k c.ranges.k) in
    c.moved.ensures
    ∙ ap (λ (p : Point). moved p c.piece_at.result) (get_or_default points (n - 1) _ origin (omega (arith, c.requires.course.long)) ∙ ap (λ m. point_at points m) place)
    ∙ ap (moved (point_at points (i + 1))) c.piece_at.ensures.value
    ∙ sym (ends_at w points i end)
    ∙ ap (λ z. path_end z points) is

pub returns-clause-near : goal.returns-clause-near
returns-clause-near c =
    let points = c.args.points.now in
    let w = to_z w64 (of_z w64 c.width_of.result) in
    let small : unsigned_abs w ≤ 2400000 = omega (arith, ints, c.width_of.ensures.small) in
    subst IsNearPlane (sym c.moved.ensures)
    (moved_near _ c.piece_at.result (All-get_or IsInPlane points (length points - 1) _ (omega (arith, c.requires.course.long)) c.requires.course.in_plane)
    (wider (unsigned_abs w) 2400000 c.piece_at.result small c.piece_at.ensures.beside))
