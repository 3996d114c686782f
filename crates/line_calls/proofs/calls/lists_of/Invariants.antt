use Rattle.std.proofs.Common.{◌≡◌, map, take}
use Rattle.line_calls.specs.Tables.{lists_in, numbers_at}
use Rattle.line_calls.proofs.calls.lists_of.Given as goal

-- the nodes so far
abbrev pub invariant-loop-n : goal.invariant-loop-n
invariant-loop-n l = l.lists.items ≡ map (numbers_at (lists_in l.table)) (take l.n l.graph.kinds)
