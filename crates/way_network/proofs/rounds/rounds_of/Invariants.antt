use Rattle.std.proofs.Common.{◌≡◌, map, take}
use Rattle.way_network.specs.Numbers.{row_round}
use Rattle.way_network.proofs.rounds.rounds_of.Given as goal

abbrev pub invariant-loop-node : goal.invariant-loop-node
invariant-loop-node l = l.rounds.items ≡ map (row_round l.points l.table l.segments) (take l.node-index l.node-items)
