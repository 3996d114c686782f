use Rattle.std.proofs.Common.{◌≡◌, ◌++◌, filter, map, take}
use Rattle.way_network.specs.Rows.{rises_from, walked_from}
use Rattle.way_network.proofs.segments.push_rising.Given as goal

-- the rising chains over the earlier edges are added
abbrev pub invariant-loop-next : goal.invariant-loop-next
invariant-loop-next l =
    l.chains.items ≡ l.initial.chains.items ++ filter (rises_from l.node) (map (walked_from l.table l.nodes.nodes l.node) (take l.next-index l.next-items))
