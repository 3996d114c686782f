use Rattle.std.proofs.Common.{◌≡◌, ◌<◌, ◌-◌, ◌++◌, length}
use Rattle.way_network.specs.Rows.{walked_on, walked_from}
use Rattle.way_network.proofs.chains.chain_from.Given as goal

-- the points so far and those from here on are the chain
abbrev pub invariant-loop : goal.invariant-loop
invariant-loop l = record {
  whole : l.chain.items ++ walked_on l.table l.nodes.nodes (length l.table - l.counter) l.last l.here ≡ walked_from l.table l.nodes.nodes l.from l.to;
  here : l.here < length l.table;
}
