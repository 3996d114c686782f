-- Where chains bend on the ground.
use Rattle.std.specs.Prelude.{ℕ, zero, suc, ◌+◌, ◌*◌, ◌-◌, ◌==◌, ◌||◌, ◌&&◌, nat_lt, nat_le, Bool, true, pos, List, [], ◌∷◌, ◌++◌, length, map, max, take, drop, fold, if◌then◌else◌, slice_index_or, slice_range, slice_set}
use Rattle.std.specs.List.{flat_map}
use Rattle.map_base.specs.declared.ids.NodeId.{NodeId}
use Rattle.map_base.specs.declared.point.Point.{Point}
use Rattle.fixed_plane.specs.Measures.{dist2_of, side_of, square_of}
use Rattle.graph_core.specs.declared.parts.GraphParts.{GraphParts}
use Rattle.line_chains.specs.declared.chain.Chain.{Chain}
use Rattle.line_chains.specs.Chains.{chains_of, nodes_along, ring_corners}

-- by how much the square of a distance from a straight piece is multiplied: the square of the piece's length, or 1
-- where it is a point
abbrev pub scale_of : Point → Point → ℕ
scale_of a b = max 1 (dist2_of a b)

-- the square of the distance of a point from the straight piece from a to b, multiplied by the piece's scale. Where the
-- angle at a is not less than a right one, a is the nearest point of the piece, and likewise b; else the nearest point
-- lies between them, and twice the triangle's area is the distance times the piece's length.
abbrev pub off_of : Point → Point → Point → ℕ
off_of a b p =
    if nat_le (dist2_of a b + dist2_of a p) (dist2_of b p) then scale_of a b * dist2_of a p
    else if nat_le (dist2_of a b + dist2_of b p) (dist2_of a p) then scale_of a b * dist2_of b p
    else square_of (side_of a b p)

-- where a node lies on the ground
abbrev pub place_of : GraphParts → NodeId → Point
place_of graph n = slice_index_or graph.places n.0 (record { x = pos 0; y = pos 0 })

-- the node at a place of a list
abbrev pub node_at : List NodeId → ℕ → NodeId
node_at nodes i = slice_index_or nodes i (record { 0 = 0 })

-- the greatest of numbers, 0 where there is none, and the first place at which a number stands
abbrev pub greatest : List ℕ → ℕ
greatest [] = 0
greatest (k ∷ ks) = max k (greatest ks)

abbrev pub first_place : ℕ → List ℕ → ℕ
first_place k [] = 0
first_place k (j ∷ js) = if j == k then 0 else suc (first_place k js)

-- the last place of a list
abbrev pub last_place : List NodeId → ℕ
last_place nodes = length nodes - 1

-- how far the nodes between the two ends of a list lie off the straight piece between these
abbrev pub offs_of : GraphParts → List NodeId → List ℕ
offs_of graph nodes =
    map (λ n. off_of (place_of graph (node_at nodes 0)) (place_of graph (node_at nodes (last_place nodes))) (place_of graph n))
    (slice_range nodes 1 (last_place nodes))

-- the place of the first of the nodes between the ends that lies farthest off
abbrev pub bend_place : GraphParts → List NodeId → ℕ
bend_place graph nodes = 1 + first_place (greatest (offs_of graph nodes)) (offs_of graph nodes)

-- nine times the square of a cell's side, by the scale of the piece between the ends
abbrev pub far_off : GraphParts → ℕ → List NodeId → ℕ
far_off graph cell nodes = 9 * (cell * cell) * scale_of (place_of graph (node_at nodes 0)) (place_of graph (node_at nodes (last_place nodes)))

-- there are nodes between the ends, and one of them lies more than three cells off, or both ends are one node
abbrev pub is_bent : GraphParts → ℕ → List NodeId → Bool
is_bent graph cell nodes =
    nat_lt 2 (length nodes) && (((node_at nodes 0).0 == (node_at nodes (last_place nodes)).0) || nat_lt (far_off graph cell nodes) (greatest (offs_of graph nodes)))

-- The nodes at which a chain bends on the ground: the one that lies farthest off, where it does so far enough, and those
-- of the two chains that it makes. Each has fewer nodes; so many are enough.
abbrev pub bends_of : ℕ → GraphParts → ℕ → List NodeId → List NodeId
bends_of zero graph cell nodes = []
bends_of (suc most) graph cell nodes =
    if is_bent graph cell nodes
    then node_at nodes (bend_place graph nodes)
    ∷ (bends_of most graph cell (take (bend_place graph nodes + 1) nodes) ++ bends_of most graph cell (drop (bend_place graph nodes) nodes))
    else []

abbrev pub chain_bends : GraphParts → ℕ → Chain → List NodeId
chain_bends graph cell c = bends_of (length (nodes_along c)) graph cell (nodes_along c)

-- more nodes are corners
abbrev pub with_corner : List Bool → NodeId → List Bool
with_corner corners n = slice_set corners n.0 true

-- the corners of a line graph on cells of a side: where not two segments meet, one of each ring, and where chains between
-- these bend on the ground
abbrev pub corners_of : GraphParts → ℕ → List Bool
corners_of graph cell = fold with_corner (ring_corners graph) (flat_map (chain_bends graph cell) (chains_of graph (ring_corners graph)))
