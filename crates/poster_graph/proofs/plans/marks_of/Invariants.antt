use Rattle.std.proofs.Common.{◌≡◌}
use Rattle.std.specs.List.{flat_map, range_with_len}
use Rattle.svg_writer.specs.Picture.{kind_at}
use Rattle.poster_rules.specs.Plans.{node_mark}
use Rattle.poster_graph.proofs.plans.marks_of.Given as goal

-- the stations of the nodes so far
abbrev pub invariant-loop-n : goal.invariant-loop-n
invariant-loop-n l =
    l.marks.items ≡ flat_map (λ n. node_mark l.served.names.now l.served.graph.now l.served.drawing.now.walks l.served.callers.now n (kind_at l.served.graph.now.kinds n)) (range_with_len 0 l.n)
