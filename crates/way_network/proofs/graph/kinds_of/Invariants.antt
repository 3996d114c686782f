use Rattle.std.proofs.Common.{◌≡◌, map, take}
use Rattle.way_network.specs.Graphs.{kind_at}
use Rattle.way_network.proofs.graph.kinds_of.Given as goal

abbrev pub invariant-loop-node : goal.invariant-loop-node
invariant-loop-node l = l.kinds.items ≡ map (kind_at l.stations) (take l.node-index l.nodes)
