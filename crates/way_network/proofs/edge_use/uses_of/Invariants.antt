use Rattle.std.proofs.Common.{◌≡◌, take}
use Rattle.way_network.specs.Uses.{uses_of}
use Rattle.way_network.proofs.edge_use.uses_of.Given as goal

abbrev pub invariant-loop-way : goal.invariant-loop-way
invariant-loop-way l = l.uses.items ≡ uses_of (take l.way-index l.ways)
