use Rattle.std.proofs.Common.{◌∙◌, sym, ap, subst, rules, refl, ℕ, ◌≤◌, length, arith}
use Rattle.way_network.specs.Segments.{nodes_of, segment_chains}
use Rattle.way_network.specs.Nodes.{node_points_in}
use Rattle.way_network.specs.Rows.{all_chains}
use Rattle.way_network.specs.Graphs.{network_over, graph_over, graph_within}
use Rattle.map_base.specs.Faults.{HasCause}
use Rattle.way_network.proofs.NetworkRows.{length-edge_table}
use Rattle.way_network.proofs.GraphLemmas.{table_is, nodes_found, nodes_are, nodes_over, chains_found, chains_end_below, passages_are, graph_made, graph_fits, graph_is_whole, node_count, segment_count, nodes_cause, segments_cause}
use Rattle.way_network.proofs.graph.graph_of.Goals as goal

pub few_nodes-requires : goal.few_nodes-requires
few_nodes-requires c =
    let g = network_over c.args.stations.now c.args.points.now c.args.lines c.args.ways.now in
    let table = table_is c.args.stations.now c.args.points.now c.args.lines c.args.ways.now (length c.args.points.now) c.in_ok-table.table refl c.in_ok-table.ensures in
    omega (arith, ap length table, length-edge_table g, c.requires.network.few_points)

pub returns-in_err-nodes-clause-cause : goal.returns-in_err-nodes-clause-cause
returns-in_err-nodes-clause-cause c =
    let g = network_over c.args.stations.now c.args.points.now c.args.lines c.args.ways.now in
    let table = table_is c.args.stations.now c.args.points.now c.args.lines c.args.ways.now (length c.args.points.now) c.in_ok-table.table refl c.in_ok-table.ensures in
    let graph = graph_over c.args.stations.now c.args.points.now g c.args.passages.now in
    let cause : HasCause (graph_within graph) c.in_err-nodes.field-0.0 =
    nodes_cause graph (length (node_points_in g.stations c.in_ok-table.table)) c.in_err-nodes.field-0.0
    (ap length (nodes_found g c.in_ok-table.table table) ∙ sym (node_count c.args.stations.now c.args.points.now g c.args.passages.now)) c.in_err-nodes.ensures.cause in
    search (rules, cause)

pub few_segments-requires : goal.few_segments-requires
few_segments-requires c =
    let g = network_over c.args.stations.now c.args.points.now c.args.lines c.args.ways.now in
    let table = table_is c.args.stations.now c.args.points.now c.args.lines c.args.ways.now (length c.args.points.now) c.in_ok-table.table refl c.in_ok-table.ensures in
    let nodes = nodes_are g c.in_ok-table.table c.in_ok-nodes.nodes table c.in_ok-nodes.ensures.nodes in
    nodes_over c.args.points.now g c.in_ok-table.table c.in_ok-nodes.nodes c.requires.network table nodes

pub returns-in_err-segments-clause-cause : goal.returns-in_err-segments-clause-cause
returns-in_err-segments-clause-cause c =
    let g = network_over c.args.stations.now c.args.points.now c.args.lines c.args.ways.now in
    let table = table_is c.args.stations.now c.args.points.now c.args.lines c.args.ways.now (length c.args.points.now) c.in_ok-table.table refl c.in_ok-table.ensures in
    let nodes = nodes_are g c.in_ok-table.table c.in_ok-nodes.nodes table c.in_ok-nodes.ensures.nodes in
    let graph = graph_over c.args.stations.now c.args.points.now g c.args.passages.now in
    let few : length graph.kinds ≤ 10000 =
    subst (λ (n : ℕ). n ≤ 10000) (ap length (nodes_found g c.in_ok-table.table table) ∙ sym (node_count c.args.stations.now c.args.points.now g c.args.passages.now)) c.in_ok-nodes.ensures.few in
    let cause : HasCause (graph_within graph) c.in_err-segments.field-0.0 =
    segments_cause graph (length (all_chains c.args.points.now c.in_ok-table.table c.in_ok-nodes.nodes.nodes)) c.in_err-segments.field-0.0 few
    (ap length (chains_found c.args.points.now g c.in_ok-table.table c.in_ok-nodes.nodes table nodes) ∙ sym (segment_count c.args.stations.now c.args.points.now g c.args.passages.now))
    c.in_err-segments.ensures.cause in
    search (rules, cause)

pub joins_at_nodes-requires : goal.joins_at_nodes-requires
joins_at_nodes-requires c =
    let g = network_over c.args.stations.now c.args.points.now c.args.lines c.args.ways.now in
    let table = table_is c.args.stations.now c.args.points.now c.args.lines c.args.ways.now (length c.args.points.now) c.in_ok-table.table refl c.in_ok-table.ensures in
    let nodes = nodes_are g c.in_ok-table.table c.in_ok-nodes.nodes table c.in_ok-nodes.ensures.nodes in
    let chains = c.in_ok-segments.ensures.segments ∙ chains_found c.args.points.now g c.in_ok-table.table c.in_ok-nodes.nodes table nodes in
    let few : length c.in_ok-segments.segments ≤ 20000 = subst (λ (n : ℕ). n ≤ 20000) (sym (ap length c.in_ok-segments.ensures.segments)) c.in_ok-segments.ensures.few in
    passages_are c.args.points.now g c.requires.network c.args.passages.now c.in_ok-nodes.nodes c.in_ok-segments.segments c.requires.passages nodes chains few

pub parts_of-requires-clause-nodes : goal.parts_of-requires-clause-nodes
parts_of-requires-clause-nodes c =
    let g = network_over c.args.stations.now c.args.points.now c.args.lines c.args.ways.now in
    let table = table_is c.args.stations.now c.args.points.now c.args.lines c.args.ways.now (length c.args.points.now) c.in_ok-table.table refl c.in_ok-table.ensures in
    let nodes = nodes_are g c.in_ok-table.table c.in_ok-nodes.nodes table c.in_ok-nodes.ensures.nodes in
    nodes_over c.args.points.now g c.in_ok-table.table c.in_ok-nodes.nodes c.requires.network table nodes

pub parts_of-requires-clause-ends : goal.parts_of-requires-clause-ends
parts_of-requires-clause-ends c =
    let g = network_over c.args.stations.now c.args.points.now c.args.lines c.args.ways.now in
    let table = table_is c.args.stations.now c.args.points.now c.args.lines c.args.ways.now (length c.args.points.now) c.in_ok-table.table refl c.in_ok-table.ensures in
    let nodes = nodes_are g c.in_ok-table.table c.in_ok-nodes.nodes table c.in_ok-nodes.ensures.nodes in
    let chains = c.in_ok-segments.ensures.segments ∙ chains_found c.args.points.now g c.in_ok-table.table c.in_ok-nodes.nodes table nodes in
    chains_end_below c.args.points.now g c.in_ok-table.table c.in_ok-segments.segments table chains

pub new-requires : goal.new-requires
new-requires c =
    let g = network_over c.args.stations.now c.args.points.now c.args.lines c.args.ways.now in
    let table = table_is c.args.stations.now c.args.points.now c.args.lines c.args.ways.now (length c.args.points.now) c.in_ok-table.table refl c.in_ok-table.ensures in
    let nodes = nodes_are g c.in_ok-table.table c.in_ok-nodes.nodes table c.in_ok-nodes.ensures.nodes in
    let found = chains_found c.args.points.now g c.in_ok-table.table c.in_ok-nodes.nodes table nodes in
    let few_nodes : length (nodes_of g) ≤ 10000 = subst (λ (n : ℕ). n ≤ 10000) (ap length (nodes_found g c.in_ok-table.table table)) c.in_ok-nodes.ensures.few in
    let few_segments : length (segment_chains c.args.points.now g) ≤ 20000 = subst (λ (n : ℕ). n ≤ 20000) (ap length found) c.in_ok-segments.ensures.few in
    graph_fits c.args.stations.now c.args.points.now g c.args.passages.now c.in_ok-parts.parts c.requires.network c.requires.passages few_nodes few_segments
    (graph_made c.args.stations.now c.args.points.now g c.args.passages.now c.in_ok-table.table c.in_ok-nodes.nodes c.in_ok-segments.segments c.in_ok-joins.joins.items c.in_ok-parts.parts table nodes
    (c.in_ok-segments.ensures.segments ∙ found) c.in_ok-joins.ensures c.in_ok-parts.ensures)

pub returns-clause-graph : goal.returns-clause-graph
returns-clause-graph c =
    let g = network_over c.args.stations.now c.args.points.now c.args.lines c.args.ways.now in
    let table = table_is c.args.stations.now c.args.points.now c.args.lines c.args.ways.now (length c.args.points.now) c.in_ok-table.table refl c.in_ok-table.ensures in
    let nodes = nodes_are g c.in_ok-table.table c.in_ok-nodes.nodes table c.in_ok-nodes.ensures.nodes in
    let found = chains_found c.args.points.now g c.in_ok-table.table c.in_ok-nodes.nodes table nodes in
    let few_nodes : length (nodes_of g) ≤ 10000 = subst (λ (n : ℕ). n ≤ 10000) (ap length (nodes_found g c.in_ok-table.table table)) c.in_ok-nodes.ensures.few in
    let few_segments : length (segment_chains c.args.points.now g) ≤ 20000 = subst (λ (n : ℕ). n ≤ 20000) (ap length found) c.in_ok-segments.ensures.few in
    graph_is_whole c.args.stations.now c.args.points.now g c.args.passages.now c.new.result few_nodes few_segments
    (c.new.ensures
    ∙ graph_made c.args.stations.now c.args.points.now g c.args.passages.now c.in_ok-table.table c.in_ok-nodes.nodes c.in_ok-segments.segments c.in_ok-joins.joins.items c.in_ok-parts.parts table nodes
    (c.in_ok-segments.ensures.segments ∙ found) c.in_ok-joins.ensures c.in_ok-parts.ensures)

pub returns-clause-chains : goal.returns-clause-chains
returns-clause-chains c =
    let g = network_over c.args.stations.now c.args.points.now c.args.lines c.args.ways.now in
    let table = table_is c.args.stations.now c.args.points.now c.args.lines c.args.ways.now (length c.args.points.now) c.in_ok-table.table refl c.in_ok-table.ensures in
    let nodes = nodes_are g c.in_ok-table.table c.in_ok-nodes.nodes table c.in_ok-nodes.ensures.nodes in
    c.into_chains.ensures ∙ c.in_ok-segments.ensures.segments ∙ chains_found c.args.points.now g c.in_ok-table.table c.in_ok-nodes.nodes table nodes
