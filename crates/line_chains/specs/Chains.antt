-- Chains of a line graph: ways over its segments from corner to corner.
use Rattle.std.specs.Prelude.{ℕ, zero, suc, ◌==◌, ◌||◌, ◌&&◌, nat_lt, not, Bool, true, false, List, [], ◌∷◌, length, map, filter, fold, if◌then◌else◌, slice_index_or, slice_set}
use Rattle.std.specs.List.{flat_map, list_any, range_with_len}
use Rattle.map_base.specs.declared.ids.NodeId.{NodeId}
use Rattle.map_base.specs.declared.ids.SegId.{SegId}
use Rattle.graph_core.specs.declared.parts.GraphParts.{GraphParts}
use Rattle.line_chains.specs.declared.chain.Chain.{Chain}
use Rattle.line_chains.specs.declared.chain.ChainStep.{ChainStep}

-- the nodes of a graph, in order
abbrev pub nodes_of : GraphParts → List NodeId
nodes_of graph = map (λ n. record { 0 = n }) (range_with_len 0 (length graph.kinds))

-- the segments round a node
abbrev pub round_of : GraphParts → NodeId → List SegId
round_of graph n = slice_index_or graph.rounds n.0 []

-- the ends of a segment
abbrev pub ends_of : GraphParts → SegId → NodeId × NodeId
ends_of graph s = slice_index_or graph.ends s.0 (record { 0 = 0 }, record { 0 = 0 })

-- the end of a segment that is not this node
abbrev pub far_end : GraphParts → SegId → NodeId → NodeId
far_end graph s n = if (ends_of graph s).0.0 == n.0 then (ends_of graph s).1 else (ends_of graph s).0

-- of the two segments round a node the other one
abbrev pub other_of : List SegId → SegId → SegId
other_of [] s = s
other_of (a ∷ []) s = a
other_of (a ∷ b ∷ rest) s = if a.0 == s.0 then b else a

-- ---- ways from a corner

-- the node is a corner, by a flag for each node
abbrev pub is_corner : List Bool → NodeId → Bool
is_corner corners n = slice_index_or corners n.0 false

-- the rest of a way, where it goes on
abbrev pub unless_ended : Bool → List ChainStep → List ChainStep
unless_ended true rest = []
unless_ended false rest = rest

-- from a node by a segment, and on over nodes that are no corners to the next corner; of at most so many steps
abbrev pub steps_from : GraphParts → List Bool → ℕ → NodeId → SegId → List ChainStep
steps_from graph corners zero n s = []
steps_from graph corners (suc most) n s =
    record { seg = s; to = far_end graph s n }
    ∷ unless_ended (is_corner corners (far_end graph s n)) (steps_from graph corners most (far_end graph s n) (other_of (round_of graph (far_end graph s n)) s))

-- the way from a corner by a segment: it comes to no segment twice
abbrev pub way_from : GraphParts → List Bool → NodeId → SegId → Chain
way_from graph corners n s = record { from = n; steps = steps_from graph corners (length graph.ends) n s }

-- the last segment of steps, and where they end
abbrev pub last_seg : SegId → List ChainStep → SegId
last_seg s [] = s
last_seg s (t ∷ ts) = last_seg t.seg ts

abbrev pub end_after : NodeId → List ChainStep → NodeId
end_after n [] = n
end_after n (t ∷ ts) = end_after t.to ts

abbrev pub end_of : Chain → NodeId
end_of c = end_after c.from c.steps

-- the nodes of a chain, from one end to the other
abbrev pub nodes_along : Chain → List NodeId
nodes_along c = c.from ∷ map (λ (t : ChainStep). t.to) c.steps

-- ---- chains

-- of two different segments of a round the first one stands before the other
abbrev pub stands_before : List SegId → SegId → SegId → Bool
stands_before [] a b = false
stands_before (r ∷ rest) a b = (r.0 == a.0 && not (a.0 == b.0)) || (not (r.0 == b.0) && stands_before rest a b)

-- a chain is walked from its lower end; where it is a ring over one corner, from the first of its two segments there
abbrev pub is_forward : GraphParts → SegId → Chain → Bool
is_forward graph s c = nat_lt c.from.0 (end_of c).0 || ((c.from.0 == (end_of c).0) && stands_before (round_of graph c.from) s (last_seg s c.steps))

-- the chains from a corner, by the places of their first segments in its round
abbrev pub chains_by : GraphParts → List Bool → NodeId → List SegId → List Chain
chains_by graph corners n [] = []
chains_by graph corners n (s ∷ ss) =
    if is_forward graph s (way_from graph corners n s) then way_from graph corners n s ∷ chains_by graph corners n ss else chains_by graph corners n ss

abbrev pub chains_at : GraphParts → List Bool → NodeId → List Chain
chains_at graph corners n = if is_corner corners n then chains_by graph corners n (round_of graph n) else []

-- the chains between corners: by their lower end, and then by the place of the first segment in its round
abbrev pub chains_of : GraphParts → List Bool → List Chain
chains_of graph corners = flat_map (chains_at graph corners) (nodes_of graph)

-- ---- corners

-- a way from the corner comes over the node
abbrev pub comes_over : NodeId → Chain → Bool
comes_over n c = list_any (λ (m : NodeId). m.0 == n.0) (nodes_along c)

abbrev pub is_reached_from : GraphParts → List Bool → NodeId → NodeId → Bool
is_reached_from graph corners n corner =
    is_corner corners corner && list_any (λ s. comes_over n (way_from graph corners corner s)) (round_of graph corner)

-- a chain reaches the node
abbrev pub is_reached : GraphParts → List Bool → NodeId → Bool
is_reached graph corners n = list_any (is_reached_from graph corners n) (nodes_of graph)

-- a node that no chain reaches becomes a corner
abbrev pub with_ring : GraphParts → List Bool → NodeId → List Bool
with_ring graph corners n = if is_reached graph corners n then corners else slice_set corners n.0 true

-- the nodes at which not two segments meet
abbrev pub plain_corners : GraphParts → List Bool
plain_corners graph = map (λ (round : List SegId). not (length round == 2)) graph.rounds

-- these, and of each ring over none of them its least node
abbrev pub ring_corners : GraphParts → List Bool
ring_corners graph = fold (with_ring graph) (plain_corners graph) (nodes_of graph)
