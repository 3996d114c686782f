use Rattle.std.proofs.Common.{◌≡◌, ◌+◌, ◌-◌, ◌≤◌, drop, length}
use Rattle.drawing_search.proofs.Common.{free_nodes, scale_of}
use Rattle.drawing_search.proofs.gains.Field.free_nodes.Given as goal

-- the nodes so far, and those of the steps that are left
abbrev pub invariant-loop-i : goal.invariant-loop-i
invariant-loop-i l = record {
  all : l.count + free_nodes (scale_of l.self.by) l.self.graph.now (drop (l.i - 1) l.steps) ≡ free_nodes (scale_of l.self.by) l.self.graph.now l.steps;
  few : l.count + 1 ≤ l.i;
  within : l.count ≤ length l.steps;
}
