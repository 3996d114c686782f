use Rattle.std.proofs.Common.{◌≡◌, ◌++◌, take}
use Rattle.std.specs.List.{flat_map}
use Rattle.map_base.specs.declared.ids.LineId.{LineId}
use Rattle.line_graph.specs.Text.{and_number}
use Rattle.line_graph.proofs.print.push_lines.Given as goal

abbrev pub invariant-loop-line : goal.invariant-loop-line
invariant-loop-line l = l.text.items ≡ l.fn.text.items ++ flat_map (λ (n : LineId). and_number n.0) (take l.line-index l.lines)
