use Rattle.std.proofs.Common.{◌≡◌, ◌++◌, take}
use Rattle.std.specs.List.{flat_map}
use Rattle.line_graph.specs.Text.{join_line}
use Rattle.line_graph.proofs.print.push_join_list.Given as goal

abbrev pub invariant-loop-join : goal.invariant-loop-join
invariant-loop-join l = l.text.items ≡ l.fn.text.items ++ flat_map (join_line l.n) (take l.join-index l.joins)
