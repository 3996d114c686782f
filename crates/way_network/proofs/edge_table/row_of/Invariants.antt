use Rattle.std.proofs.Common.{◌≡◌, take, All}
use Rattle.way_network.specs.declared.edges.UsedEdge.{UsedEdge}
use Rattle.way_network.specs.Uses.{AreThose, is_run_by, line_numbers, neighbours_in}
use Rattle.way_network.proofs.edge_table.row_of.Given as goal

abbrev pub invariant-loop-q : goal.invariant-loop-q
invariant-loop-q l = record {
  neighbours : neighbours_in l.row.items ≡ take l.q-index l.q-items;
  lines : All (λ (edge : UsedEdge). AreThose (is_run_by l.uses l.p edge.to) (line_numbers edge)) l.row.items;
}
