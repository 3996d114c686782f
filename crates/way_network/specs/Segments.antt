-- The nodes and segments of the line graph, and the round of each node.
use Rattle.std.specs.Prelude.{ℕ, Bool, true, false, ◌==◌, ◌&&◌, ◌||◌, nat_lt, List, [], ◌∷◌, map, filter, position, unwrap_or, if◌then◌else◌}
use Rattle.std.specs.List.{flat_map}
use Rattle.std.specs.declared.cmp.Ordering.{Ordering}
use Rattle.std.specs.declared.cmp.Ordering.TheVariants.{Less}
use Rattle.map_base.specs.declared.point.Point.{Point}
use Rattle.map_base.specs.declared.ids.NodeId.{NodeId}
use Rattle.map_base.specs.declared.ids.SegId.{SegId}
use Rattle.map_base.specs.declared.ids.LineId.{LineId}
use Rattle.fixed_plane.specs.Directions.{clockwise_from}
use Rattle.track_net.specs.Nearness.{point_at}
use Rattle.way_network.specs.Edges.{lines_over, node_points}
use Rattle.way_network.specs.Chains.{Network, used_at, chain_from}

-- the one direction stands before the other
abbrev pub is_less : Ordering → Bool
is_less Less = true
is_less other = false

-- from a point the one lies before the other, clockwise from north
abbrev pub turns_before : List Point → ℕ → ℕ → ℕ → Bool
turns_before points from a b = is_less (clockwise_from (point_at points from) (point_at points a) (point_at points b))

-- a number put before the first of a list that it stands before
abbrev pub put_in : (ℕ → ℕ → Bool) → ℕ → List ℕ → List ℕ
put_in before a [] = a ∷ []
put_in before a (b ∷ rest) = if before a b then a ∷ b ∷ rest else b ∷ put_in before a rest

-- numbers put in one by one
abbrev pub put_in_order : (ℕ → ℕ → Bool) → List ℕ → List ℕ
put_in_order before [] = []
put_in_order before (a ∷ rest) = put_in before a (put_in_order before rest)

-- the points with which one has a used edge, clockwise from north
abbrev pub around : List Point → Network → ℕ → List ℕ
around points g p = put_in_order (turns_before points p) (used_at g p)

-- the last of some numbers
abbrev pub last_of : List ℕ → ℕ
last_of [] = 0
last_of (a ∷ []) = a
last_of (a ∷ b ∷ rest) = last_of (b ∷ rest)

-- the chains that begin at a point, clockwise from north
abbrev pub chains_from : List Point → Network → ℕ → List (List ℕ)
chains_from points g p = map (chain_from g p) (around points g p)

-- those of them that end at a higher point
abbrev pub rising_chains : List Point → Network → ℕ → List (List ℕ)
rising_chains points g p = filter (λ (chain : List ℕ). nat_lt p (last_of chain)) (chains_from points g p)

-- the net points that are nodes, in order
abbrev pub nodes_of : Network → List ℕ
nodes_of g = node_points g.stations g.points g.lines g.ways

-- the chains that are the segments: by lower node, then by place round it
abbrev pub segment_chains : List Point → Network → List (List ℕ)
segment_chains points g = flat_map (rising_chains points g) (nodes_of g)

-- the number of the node at a net point
abbrev pub node_at : Network → ℕ → ℕ
node_at g p = unwrap_or (position (λ n. n == p) (nodes_of g)) 0

abbrev pub first_of : List ℕ → ℕ
first_of [] = 0
first_of (a ∷ rest) = a

abbrev pub second_of : List ℕ → ℕ
second_of [] = 0
second_of (a ∷ []) = a
second_of (a ∷ b ∷ rest) = b

abbrev pub reversed_onto : List ℕ → List ℕ → List ℕ
reversed_onto done [] = done
reversed_onto done (a ∷ rest) = reversed_onto (a ∷ done) rest

abbrev pub reversed : List ℕ → List ℕ
reversed chain = reversed_onto [] chain

-- a chain begins with these two points
abbrev pub begins_with : ℕ → ℕ → List ℕ → Bool
begins_with p q chain = (first_of chain == p) && (second_of chain == q)

-- a chain leaves a node over the edge to a point, at its lower or at its upper end
abbrev pub leaves : ℕ → ℕ → List ℕ → Bool
leaves p q chain = begins_with p q chain || begins_with p q (reversed chain)

-- the number of the segment that leaves a node over the edge to a point
abbrev pub segment_at : List (List ℕ) → ℕ → ℕ → ℕ
segment_at chains p q = unwrap_or (position (leaves p q) chains) 0

-- the node, the segment and the line of a number
abbrev pub node_numbered : ℕ → NodeId
node_numbered n = record { 0 = n }

abbrev pub segment_numbered : ℕ → SegId
segment_numbered n = record { 0 = n }

abbrev pub line_numbered : ℕ → LineId
line_numbered n = record { 0 = n }

-- the nodes at the ends of a chain
abbrev pub ends_of : Network → List ℕ → NodeId × NodeId
ends_of g chain = (node_numbered (node_at g (first_of chain)), node_numbered (node_at g (last_of chain)))

-- the lines of a chain: those of its first edge
abbrev pub lines_of : Network → List ℕ → List LineId
lines_of g chain = map line_numbered (lines_over g.lines g.ways (first_of chain) (second_of chain))

-- the segments round a node, clockwise from north
abbrev pub round_of : List Point → Network → List (List ℕ) → ℕ → List SegId
round_of points g chains p = map (λ q. segment_numbered (segment_at chains p q)) (around points g p)
