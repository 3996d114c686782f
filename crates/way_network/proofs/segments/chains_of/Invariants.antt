use Rattle.std.proofs.Common.{◌≡◌, take}
use Rattle.std.specs.List.{flat_map}
use Rattle.way_network.specs.Rows.{row_chains}
use Rattle.way_network.proofs.segments.chains_of.Given as goal

-- the chains of the earlier nodes are there
abbrev pub invariant-loop-node : goal.invariant-loop-node
invariant-loop-node l = l.chains.items ≡ flat_map (row_chains l.points l.table l.nodes.nodes) (take l.node-index l.node-items)
