use Rattle.std.proofs.Common.{◌≡◌, map, filter}
use Rattle.std.specs.List.{range_with_len}
use Rattle.way_network.specs.Nodes.{is_node_in}
use Rattle.way_network.proofs.NodeLemmas.{before_number}
use Rattle.way_network.proofs.nodes.nodes_of.Given as goal

abbrev pub invariant-loop-k : goal.invariant-loop-k
invariant-loop-k l = record {
  points : l.points.items ≡ filter (is_node_in l.stations l.table) (range_with_len 0 l.k);
  flags : l.flags.items ≡ map (is_node_in l.stations l.table) (range_with_len 0 l.k);
  places : l.places.items ≡ map (before_number (is_node_in l.stations l.table)) (range_with_len 0 l.k);
}
