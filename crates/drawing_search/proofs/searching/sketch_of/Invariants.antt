use Rattle.std.proofs.Common.{◌≡◌, ◌-◌, length}
use Rattle.drawing_search.proofs.Beginning.{with_nodes, with_walks}
use Rattle.drawing_search.proofs.searching.sketch_of.Given as goal

-- so many nodes stand
abbrev pub invariant-loop-n : goal.invariant-loop-n
invariant-loop-n l = l.sketch ≡ with_nodes l.fn.bounds l.points (length l.walks.items) l.n

-- and so many segments have walks
abbrev pub invariant-loop-walk : goal.invariant-loop-walk
invariant-loop-walk l = record {
  sketch : l.sketch ≡ with_walks l.fn.bounds l.points l.yielded (length l.fn.walks.items - length l.yielded);
  count : l.s ≡ length l.yielded;
}
