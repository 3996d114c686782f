use Rattle.std.proofs.Common.{◌∙◌, sym, ap, List, [], Option, unwrap_or, w32}
use Rattle.std.proofs.lemmas.Int.{to_z-of_z}
use Rattle.map_base.specs.declared.point.Point.{Point}
use Rattle.geo_lines.specs.Shifts.{width_of}
use Rattle.geo_lines.specs.Courses.{path_start}
use Rattle.geo_map.specs.GeoMap.{drawn}
use Rattle.geo_map.proofs.plane.start_at.Goals as goal

pub returns-in-Some : goal.returns-in-Some
returns-in-Some c =
    c.drawn.ensures
    ∙ ap drawn
    (c.path_start.ensures.corner
    ∙ ap (λ z. path_start (width_of z) c.as_slice.result.now) (to_z-of_z w32 c.args.k c.ranges.k)
    ∙ ap (path_start (width_of c.args.k)) c.as_slice.ensures
    ∙ sym (ap (λ (o : Option (List Point)). path_start (width_of c.args.k) (unwrap_or o [])) c.in-Some.ensures))

pub returns-in-None : goal.returns-in-None
returns-in-None c = sym (ap (λ (o : Option (List Point)). drawn (path_start (width_of c.args.k) (unwrap_or o []))) c.in-None.ensures)
