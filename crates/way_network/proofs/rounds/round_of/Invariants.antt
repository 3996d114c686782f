use Rattle.std.proofs.Common.{◌≡◌, map, take}
use Rattle.way_network.specs.Numbers.{number_to}
use Rattle.way_network.proofs.rounds.round_of.Given as goal

abbrev pub invariant-loop-neighbour : goal.invariant-loop-neighbour
invariant-loop-neighbour l = l.round.items ≡ map (number_to l.segments l.node) (take l.neighbour-index l.neighbour-items)
