-- The nodes of a network, told from the used edges of its points.
use Rattle.std.specs.Prelude.{◌≡◌, ℕ, ◌<◌, ◌==◌, ◌||◌, nat_lt, not, Bool, false, List, [], ◌∷◌, length, map, filter, position, unwrap_or, All}
use Rattle.std.specs.List.{range_with_len}
use Rattle.way_network.specs.declared.edges.UsedEdge.{UsedEdge}
use Rattle.way_network.specs.Edges.{are_equal}
use Rattle.way_network.specs.Tables.{row_at}
use Rattle.way_network.specs.Uses.{has_number, line_numbers}

-- a row has just two edges, and the lines of both are equal
abbrev pub row_passes : List UsedEdge → Bool
row_passes (x ∷ y ∷ []) = are_equal (line_numbers x) (line_numbers y)
row_passes others = false

-- a point that is no station is a node by its row
abbrev pub row_has_node : List UsedEdge → Bool
row_has_node [] = false
row_has_node (x ∷ rest) = not (row_passes (x ∷ rest))

-- a point is a node: one of the stations, which are the first points, or by its row
abbrev pub is_node_in : ℕ → List (List UsedEdge) → ℕ → Bool
is_node_in stations table p = nat_lt p stations || row_has_node (row_at table p)

-- the points that are nodes, in order
abbrev pub node_points_in : ℕ → List (List UsedEdge) → List ℕ
node_points_in stations table = filter (is_node_in stations table) (range_with_len 0 (length table))

-- the number of the node at a point: its place in the list of the nodes' points, or 0 where there is none
abbrev pub place_in : List ℕ → ℕ → ℕ
place_in nodes p = unwrap_or (position (λ n. n == p) nodes) 0

-- how many points there are, and which of them are nodes
pub record NodeTable : Type 0 where
  pub points : ℕ
  pub nodes : List ℕ

-- what is kept for each point: whether it is a node, and the node's number
pub record KeepsNodes (points : ℕ) (nodes : List ℕ) (flags : List Bool) (places : List ℕ) : Type 0 where
  pub flagged : flags ≡ map (has_number nodes) (range_with_len 0 points)
  pub placed : places ≡ map (place_in nodes) (range_with_len 0 points)
  pub known : All (λ p. p < points) nodes
