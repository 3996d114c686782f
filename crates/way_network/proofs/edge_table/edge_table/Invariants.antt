use Rattle.std.proofs.Common.{◌≡◌, map, All}
use Rattle.std.specs.List.{range_with_len}
use Rattle.way_network.specs.Tables.{edges_from}
use Rattle.way_network.specs.Uses.{IsRising}
use Rattle.way_network.proofs.edge_table.edge_table.Given as goal

abbrev pub invariant-loop-p : goal.invariant-loop-p
invariant-loop-p l = record {
  rows : l.rows.items ≡ map (edges_from (record { stations = 0; points = l.points; lines = l.lines; ways = l.ways })) (range_with_len 0 l.p);
  rising : All IsRising l.rows.items;
}
