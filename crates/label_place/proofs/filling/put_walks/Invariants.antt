use Rattle.std.specs.List.{flat_map, range_with_len}
use Rattle.label_place.specs.Grids.{Adds}
use Rattle.label_place.specs.Signs.{walk_things}
use Rattle.label_place.proofs.filling.put_walks.Given as goal

-- the table has the steps of the walks so far
abbrev pub invariant-loop-s : goal.invariant-loop-s
invariant-loop-s l = Adds l.fn.grid l.grid (flat_map (walk_things l.graph l.drawing.walks) (range_with_len 0 l.s))
