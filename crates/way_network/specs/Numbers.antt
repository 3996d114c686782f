-- Segments and their numbers, by the edges over which they leave their ends.
use Rattle.std.specs.Prelude.{◌≡◌, ℕ, ◌<◌, ◌^◌, Bool, ◌==◌, ◌&&◌, List, [], map, find, drop, length, Option, Some, None}
use Rattle.std.specs.List.{position_from}
use Rattle.std.specs.HashMap.{get, HashMap}
use Rattle.std.specs.declared.hash.FoldHasher.{FoldHasher}
use Rattle.std.specs.declared.hash.BuildHasherDefault.{BuildHasherDefault}
use Rattle.map_base.specs.declared.point.Point.{Point}
use Rattle.map_base.specs.declared.ids.NodeId.{NodeId}
use Rattle.map_base.specs.declared.ids.SegId.{SegId}
use Rattle.map_base.specs.declared.ids.LineId.{LineId}
use Rattle.way_network.specs.declared.edges.UsedEdge.{UsedEdge}
use Rattle.way_network.specs.Segments.{first_of, second_of, last_of, reversed, leaves, segment_at, segment_numbered, node_numbered}
use Rattle.way_network.specs.Tables.{row_at}
use Rattle.way_network.specs.Nodes.{place_in}
use Rattle.way_network.specs.Rows.{row_around}

-- edges are one where they lead from one point to one point
abbrev pub is_edge : ℕ × ℕ → ℕ × ℕ → Bool
is_edge e f = (e.0 == f.0) && (e.1 == f.1)

-- numbers of segments by edges
abbrev pub EdgeMap : Type 0
EdgeMap = HashMap (ℕ × ℕ) ℕ (BuildHasherDefault FoldHasher)

-- the edge over which a chain leaves its lower end, and its upper end
abbrev pub lower_edge_of : List ℕ → ℕ × ℕ
lower_edge_of chain = (first_of chain, second_of chain)

abbrev pub upper_edge_of : List ℕ → ℕ × ℕ
upper_edge_of chain = (first_of (reversed chain), second_of (reversed chain))

-- the number of the first chain from the n-th on that leaves a point over an edge
abbrev pub first_leaving : List (List ℕ) → ℕ → ℕ × ℕ → Option ℕ
first_leaving chains n edge = position_from (leaves edge.0 edge.1) n (drop n chains)

-- each edge over which one of the chains from the n-th on leaves a point has the number of the first of them
abbrev pub AreNumbered : List (List ℕ) → ℕ → EdgeMap → Type 0
AreNumbered chains n numbers = (edge : ℕ × ℕ) → get is_edge numbers edge ≡ first_leaving chains n edge

-- chains that have their numbers
pub record AreSegments (chains : List (List ℕ)) (numbers : EdgeMap) : Type 0 where
  pub few : length chains < 2 ^ 32
  pub numbered : AreNumbered chains 0 numbers

-- the number of the segment that leaves a point over an edge
abbrev pub number_to : List (List ℕ) → ℕ → ℕ → SegId
number_to chains p q = segment_numbered (segment_at chains p q)

-- the segments round a node
abbrev pub row_round : List Point → List (List UsedEdge) → List (List ℕ) → ℕ → List SegId
row_round points rows chains p = map (number_to chains p) (row_around points p (row_at rows p))

-- the nodes at the ends of a chain
abbrev pub ends_among : List ℕ → List ℕ → NodeId × NodeId
ends_among nodes chain = (node_numbered (place_in nodes (first_of chain)), node_numbered (place_in nodes (last_of chain)))

-- a chain begins and ends at points below a number
pub record EndsBelow (n : ℕ) (chain : List ℕ) : Type 0 where
  pub first : first_of chain < n
  pub last : last_of chain < n

-- the lines of an edge, and none where it is none
abbrev pub lines_or_none : Option UsedEdge → List LineId
lines_or_none None = []
lines_or_none (Some edge) = edge.lines

-- the lines of the first of these edges that leads to a point
abbrev pub lines_to : List UsedEdge → ℕ → List LineId
lines_to row q = lines_or_none (find (λ (edge : UsedEdge). edge.to == q) row)

-- the lines of a chain: those of its first edge
abbrev pub row_lines : List (List UsedEdge) → List ℕ → List LineId
row_lines rows chain = lines_to (row_at rows (first_of chain)) (second_of chain)
