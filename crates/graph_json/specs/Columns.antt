-- The columns of features: the parts of nodes and of segments, in order.
use Rattle.std.specs.Prelude.{◌≡◌, List, map}
use Rattle.graph_json.specs.declared.columns.Columns.{Columns}
use Rattle.graph_json.specs.declared.forms.NodeForm.{NodeForm}
use Rattle.graph_json.specs.declared.forms.SegmentForm.{SegmentForm}
use Rattle.graph_json.specs.declared.forms.Feature.{Feature}
use Rattle.graph_json.specs.References.{nodes_in, segments_in, names_of_nodes, is_node}

pub record AreColumns (columns : Columns) (features : List Feature) : Type 0 where
  pub names : columns.names.items ≡ names_of_nodes (nodes_in features)
  pub places : columns.places.items ≡ map (λ (n : NodeForm). n.place) (nodes_in features)
  pub rounds : columns.rounds.items ≡ map (λ (n : NodeForm). n.round) (nodes_in features)
  pub joins : columns.joins.items ≡ map (λ (n : NodeForm). n.joins) (nodes_in features)
  pub ends : columns.ends.items ≡ map (λ (s : SegmentForm). s.ends) (segments_in features)
  pub lines : columns.lines.items ≡ map (λ (s : SegmentForm). s.lines) (segments_in features)
  pub are_nodes : columns.are_nodes.items ≡ map is_node features
