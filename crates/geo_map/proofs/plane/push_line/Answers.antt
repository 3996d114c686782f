use Rattle.std.proofs.Common.{◌++◌, ◌∙◌, ap, List, map, w32}
use Rattle.std.proofs.lemmas.Int.{to_z-of_z}
use Rattle.map_base.specs.declared.point.Point.{Point}
use Rattle.geo_lines.specs.Courses.{shifted_path}
use Rattle.geo_map.specs.GeoMap.{drawn}
use Rattle.geo_map.proofs.plane.push_line.Goals as goal

pub returns : goal.returns
returns c =
    c.in_ok-push_drawn.ensures
    ∙ ap (λ (points : List Point). c.args.path.now.items ++ map drawn points)
    (c.as_slice.ensures.value ∙ c.in_ok-line.ensures.path ∙ ap (λ z. shifted_path z c.args.course.now) (to_z-of_z w32 c.args.k c.ranges.k))
