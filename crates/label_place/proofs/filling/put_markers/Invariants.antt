use Rattle.std.specs.List.{flat_map, range_with_len}
use Rattle.svg_writer.specs.Picture.{kind_at}
use Rattle.label_place.specs.Grids.{Adds}
use Rattle.label_place.specs.Places.{marker_square}
use Rattle.label_place.specs.Signs.{areas}
use Rattle.label_place.proofs.filling.put_markers.Given as goal

-- the table has the squares so far
abbrev pub invariant-loop-n : goal.invariant-loop-n
invariant-loop-n l = Adds l.fn.grid l.grid (areas (flat_map (λ n. marker_square l.graph l.drawing.walks n (kind_at l.graph.kinds n)) (range_with_len 0 l.n)))
