use Rattle.std.proofs.Common.{◌≡◌, ◌++◌, drop, map}
use Rattle.geo_map.specs.GeoMap.{drawn}
use Rattle.geo_map.proofs.plane.push_drawn.Given as goal

-- what is put and what is left are the whole
abbrev pub invariant-loop-point : goal.invariant-loop-point
invariant-loop-point l = l.path.items ++ map drawn (drop l.point-index l.points) ≡ l.fn.path.items ++ map drawn l.points
