use Rattle.std.proofs.Common.{◌≡◌, map, take}
use Rattle.way_network.specs.Numbers.{row_lines}
use Rattle.way_network.proofs.rounds.lines_of.Given as goal

abbrev pub invariant-loop-chain : goal.invariant-loop-chain
invariant-loop-chain l = l.lines.items ≡ map (row_lines l.table) (take l.chain-index l.chains)
