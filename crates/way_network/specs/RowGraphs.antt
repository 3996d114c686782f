-- The line graph, told from the used edges of each point, from the nodes and from the chains that are the segments.
use Rattle.std.specs.Prelude.{◌≡◌, ℕ, ◌<◌, ◌^◌, List, map, filter, length, All}
use Rattle.map_base.specs.declared.ids.StationId.{StationId}
use Rattle.map_base.specs.declared.point.Point.{Point}
use Rattle.track_net.specs.Nearness.{point_at}
use Rattle.graph_core.specs.declared.parts.Join.{Join}
use Rattle.graph_core.specs.declared.parts.GraphParts.{GraphParts}
use Rattle.way_network.specs.declared.way.Passage.{Passage}
use Rattle.way_network.specs.declared.edges.UsedEdge.{UsedEdge}
use Rattle.way_network.specs.declared.joins.Crossing.{Crossing}
use Rattle.way_network.specs.Graphs.{kind_at}
use Rattle.way_network.specs.Nodes.{NodeTable}
use Rattle.way_network.specs.Rows.{AreEdgesOver}
use Rattle.way_network.specs.Numbers.{ends_among, row_lines, row_round}
use Rattle.way_network.specs.Crossings.{crossing_of, is_passage_at, IsWithin}

-- the crossings that the passages at nodes are
abbrev pub crossings_at : List ℕ → List (List ℕ) → List Passage → List Crossing
crossings_at nodes chains passages = map (crossing_of chains) (filter (is_passage_at nodes) passages)

-- the graph, with these joins at its nodes
abbrev pub row_graph : List StationId → List Point → List (List Join) → List (List UsedEdge) → List ℕ → List (List ℕ) → GraphParts
row_graph stations points joins rows nodes chains = record {
  kinds = map (kind_at stations) nodes;
  places = map (point_at points) nodes;
  ends = map (ends_among nodes) chains;
  lines = map (row_lines rows) chains;
  rounds = map (row_round points rows chains) nodes;
  joins = joins;
}

-- nodes and used edges of one network over these points
pub record AreNodesOver (points : List Point) (rows : List (List UsedEdge)) (nodes : NodeTable) : Type 0 where
  pub edges : AreEdgesOver points rows
  pub row_each : nodes.points ≡ length rows
  pub known : All (λ p. p < length rows) nodes.nodes

-- passages at known points, over segments and by lines that are there
pub record ArePassages (lines : ℕ) (passages : List Passage) (nodes : NodeTable) (chains : List (List ℕ)) : Type 0 where
  pub few : length chains < 2 ^ 32
  pub known : All (λ x. x.at < nodes.points) passages
  pub within : All (IsWithin (length chains) lines) (crossings_at nodes.nodes chains passages)
