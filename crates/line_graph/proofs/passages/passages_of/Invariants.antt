use Rattle.std.proofs.Common.{◌≡◌, take}
use Rattle.std.specs.List.{flat_map}
use Rattle.way_network.specs.Joins.{passages_of_way}
use Rattle.line_graph.proofs.passages.passages_of.Given as goal

abbrev pub invariant-loop-way : goal.invariant-loop-way
invariant-loop-way l = l.passages.items ≡ flat_map passages_of_way (take l.way-index l.ways)
