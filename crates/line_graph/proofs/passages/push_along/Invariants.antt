use Rattle.std.proofs.Common.{◌≡◌, ◌++◌, ◌≤◌, max, length, take}
use Rattle.way_network.specs.Joins.{passages_along}
use Rattle.line_graph.proofs.passages.push_along.Given as goal

abbrev pub invariant-loop-k : goal.invariant-loop-k
invariant-loop-k l = record {
  passages : l.passages.items ≡ l.fn.passages.items ++ passages_along l.line (take l.k l.points);
  upto : l.k ≤ max 2 (length l.points);
}
