use Rattle.std.proofs.Common.{◌≡◌, ◌++◌}
use Rattle.std.specs.List.{flat_map, range_with_len}
use Rattle.line_graph.specs.Text.{node_line}
use Rattle.line_graph.proofs.print.push_nodes.Given as goal

abbrev pub invariant-loop-n : goal.invariant-loop-n
invariant-loop-n l = l.text.items ≡ l.fn.text.items ++ flat_map (node_line l.stations l.graph) (range_with_len 0 l.n)
