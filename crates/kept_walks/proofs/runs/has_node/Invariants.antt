use Rattle.std.proofs.Common.{◌≡◌, drop}
use Rattle.run_laying.specs.Attempts.{has_node}
use Rattle.kept_walks.proofs.runs.has_node.Given as goal

-- it depends on the nodes that are left
abbrev pub invariant-loop-m : goal.invariant-loop-m
invariant-loop-m l = has_node (drop l.m-index l.nodes) l.n.0 ≡ has_node l.nodes l.n.0
