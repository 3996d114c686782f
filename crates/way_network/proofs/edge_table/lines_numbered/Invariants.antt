use Rattle.std.proofs.Common.{◌≡◌, map, take}
use Rattle.way_network.specs.Segments.{line_numbered}
use Rattle.way_network.proofs.edge_table.lines_numbered.Given as goal

abbrev pub invariant-loop-number : goal.invariant-loop-number
invariant-loop-number l = l.lines.items ≡ map line_numbered (take l.number-index l.numbers)
