use Rattle.std.proofs.Common.{◌≡◌, take}
use Rattle.order_terms.proofs.graph_terms.all_lines.Given as goal

abbrev pub invariant-loop-s : goal.invariant-loop-s
invariant-loop-s l = l.segs.items ≡ take l.s l.graph.lines
