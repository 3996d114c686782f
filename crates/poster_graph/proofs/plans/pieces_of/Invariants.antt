use Rattle.std.proofs.Common.{◌≡◌}
use Rattle.std.specs.List.{flat_map, range_with_len}
use Rattle.poster_rules.specs.Plans.{segment_pieces}
use Rattle.poster_graph.proofs.plans.pieces_of.Given as goal

-- those of the segments so far
abbrev pub invariant-loop-s : goal.invariant-loop-s
invariant-loop-s l = l.pieces.items ≡ flat_map (segment_pieces l.served.graph.now l.served.drawing.now.walks) (range_with_len 0 l.s)
