use Rattle.std.proofs.Common.{◌≡◌, ◌++◌, ◌≤◌, ◌-◌, max, length, take}
use Rattle.line_graph.specs.Legs.{legs_of}
use Rattle.line_graph.specs.Handing.{passages_between}
use Rattle.line_graph.specs.StretchTables.{path_in}
use Rattle.line_graph.proofs.passages.push_between.Given as goal

abbrev pub invariant-loop-k : goal.invariant-loop-k
invariant-loop-k l = record {
  passages : l.passages.items ≡ l.fn.passages.items ++ passages_between (path_in l.table l.ways) (take (l.k - 1) (legs_of l.course));
  upto : l.k ≤ max 2 (length l.course.stops);
}
