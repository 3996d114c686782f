use Rattle.std.proofs.Common.{◌∙◌, sym, ap, List, [], Option, unwrap_or, map}
use Rattle.map_base.specs.declared.point.Point.{Point}
use Rattle.geo_lines.specs.Courses.{shifted_path}
use Rattle.geo_map.specs.GeoMap.{drawn}
use Rattle.geo_map.proofs.plane.put_line.Goals as goal

pub returns-in-None : goal.returns-in-None
returns-in-None c = c.clear.ensures.items ∙ sym (ap (λ (o : Option (List Point)). map drawn (shifted_path c.args.k (unwrap_or o []))) c.in-None.ensures)
