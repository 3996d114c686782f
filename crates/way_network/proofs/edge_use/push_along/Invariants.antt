use Rattle.std.proofs.Common.{◌≡◌, ◌++◌, ◌≤◌, max, length, take}
use Rattle.way_network.specs.Uses.{uses_along}
use Rattle.way_network.proofs.edge_use.push_along.Given as goal

abbrev pub invariant-loop-k : goal.invariant-loop-k
invariant-loop-k l = record {
  uses : l.uses.items ≡ l.fn.uses.items ++ uses_along l.line (take l.k l.points);
  upto : l.k ≤ max 1 (length l.points);
}
