use Rattle.std.proofs.Common.{w32, ap, sym, ◌∙◌, subst, List, All}
use Rattle.std.proofs.lemmas.Int.{to_z-of_z}
use Rattle.map_base.specs.declared.point.Point.{Point}
use Rattle.geo_lines.specs.Courses.{shifted_path, IsNearPlane}
use Rattle.geo_lines.proofs.Beside.{path_near}
use Rattle.geo_lines.proofs.path.shift_path.Goals as goal

pub returns-clause-near : goal.returns-clause-near
returns-clause-near c =
    let is = c.in_ok-put_path.ensures ∙ ap (λ z. shifted_path z c.args.points.now) (to_z-of_z w32 c.args.k c.ranges.k) in
    subst (λ (path : List Point). All IsNearPlane path) (sym is) (path_near c.args.k c.args.points.now c.requires.course c.requires.places)
