-- Flags of nodes that ways come over.
use Rattle.std.specs.Prelude.{Bool, true, List, [], ◌∷◌, map, fold, slice_set}
use Rattle.map_base.specs.declared.ids.NodeId.{NodeId}
use Rattle.map_base.specs.declared.ids.SegId.{SegId}
use Rattle.graph_core.specs.declared.parts.GraphParts.{GraphParts}
use Rattle.line_chains.specs.declared.chain.Chain.{Chain}
use Rattle.line_chains.specs.Chains.{is_reached, nodes_along, nodes_of, round_of, way_from}

-- flags with that of a node raised
abbrev pub marked : List Bool → NodeId → List Bool
marked flags n = slice_set flags n.0 true

-- with those of the nodes of a way
abbrev pub marked_over : List Bool → Chain → List Bool
marked_over flags c = fold marked flags (nodes_along c)

-- with those of the ways from a corner
abbrev pub marked_from : GraphParts → List Bool → NodeId → List Bool → List Bool
marked_from graph corners n flags = fold marked_over flags (map (way_from graph corners n) (round_of graph n))

-- a flag for each node: a way from a corner comes over it
abbrev pub reached_by : GraphParts → List Bool → List Bool
reached_by graph corners = map (is_reached graph corners) (nodes_of graph)
