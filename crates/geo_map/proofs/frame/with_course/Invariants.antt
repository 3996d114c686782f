use Rattle.std.proofs.Common.{◌≡◌, take, fold, map}
use Rattle.std.specs.Prelude.{IfSome}
use Rattle.svg_writer.specs.Elements.{AreBounds}
use Rattle.svg_writer.specs.Picture.{bounds_with_corner}
use Rattle.geo_map.specs.GeoMap.{drawn}
use Rattle.geo_map.proofs.frame.with_course.Given as goal

abbrev pub invariant-loop-point : goal.invariant-loop-point
invariant-loop-point l = (l.held ≡ fold bounds_with_corner l.fn.bounds (map drawn (take l.point-index l.points))) × IfSome l.held AreBounds
