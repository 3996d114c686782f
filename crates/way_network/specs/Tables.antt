-- The used edges of a network, as they are kept: for each point its neighbours, and the lines of each edge.
use Rattle.std.specs.Prelude.{ℕ, List, [], map}
use Rattle.std.specs.List.{range_with_len, slice_index_or}
use Rattle.way_network.specs.declared.edges.UsedEdge.{UsedEdge}
use Rattle.way_network.specs.Edges.{lines_over}
use Rattle.way_network.specs.Chains.{Network, used_at}
use Rattle.way_network.specs.Segments.{line_numbered}

-- the used edge from a point to another
abbrev pub edge_to : Network → ℕ → ℕ → UsedEdge
edge_to g p q = record { to = q; lines = map line_numbered (lines_over g.lines g.ways p q) }

-- the used edges of a point, by the number of the other point
abbrev pub edges_from : Network → ℕ → List UsedEdge
edges_from g p = map (edge_to g p) (used_at g p)

-- the used edges of each point
abbrev pub edge_table : Network → List (List UsedEdge)
edge_table g = map (edges_from g) (range_with_len 0 g.points)

-- the row of a point
abbrev pub row_at : List (List UsedEdge) → ℕ → List UsedEdge
row_at table p = slice_index_or table p []
