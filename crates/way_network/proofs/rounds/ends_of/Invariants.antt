use Rattle.std.proofs.Common.{◌≡◌, map, take}
use Rattle.way_network.specs.Numbers.{ends_among}
use Rattle.way_network.proofs.rounds.ends_of.Given as goal

abbrev pub invariant-loop-chain : goal.invariant-loop-chain
invariant-loop-chain l = l.ends.items ≡ map (ends_among l.nodes.nodes) (take l.chain-index l.chains)
