use Rattle.std.proofs.Common.{◌≡◌, take, fold, map, None}
use Rattle.std.specs.Prelude.{IfSome}
use Rattle.std.specs.List.{flat_map}
use Rattle.svg_writer.specs.Elements.{AreBounds}
use Rattle.svg_writer.specs.Picture.{bounds_with_corner}
use Rattle.geo_map.specs.GeoMap.{drawn}
use Rattle.geo_map.proofs.frame.bounds_of.Given as goal

abbrev pub invariant-loop-course : goal.invariant-loop-course
invariant-loop-course l = (l.bounds ≡ fold bounds_with_corner None (flat_map (map drawn) (take l.course-index l.lines))) × IfSome l.bounds AreBounds
