use Rattle.std.proofs.Common.{◌≡◌, ◌++◌}
use Rattle.std.specs.List.{flat_map, range_with_len}
use Rattle.line_graph.specs.Text.{segment_line}
use Rattle.line_graph.proofs.print.push_segments.Given as goal

abbrev pub invariant-loop-s : goal.invariant-loop-s
invariant-loop-s l = l.text.items ≡ l.fn.text.items ++ flat_map (segment_line l.graph) (range_with_len 0 l.s)
