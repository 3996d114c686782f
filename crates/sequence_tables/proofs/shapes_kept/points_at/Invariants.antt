use Rattle.std.proofs.Common.{◌≡◌, map, take}
use Rattle.sequence_tables.specs.KeptShapes.{point_there}
use Rattle.sequence_tables.proofs.shapes_kept.points_at.Given as goal

abbrev pub invariant-loop-k : goal.invariant-loop-k
invariant-loop-k l = l.found.items ≡ map (point_there l.points) (take l.k l.places)
