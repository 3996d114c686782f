-- Routes of segments, one after another.
use Rattle.std.specs.Prelude.{ℕ, Bool, true, false, not, pos, List, [], ◌∷◌, length, replicate, take, Option, Some, None, Result, Ok, Err, slice_index_or, slice_set}
use Rattle.std.specs.List.{filter_map}
use Rattle.map_base.specs.declared.ids.NodeId.{NodeId}
use Rattle.map_base.specs.declared.ids.SegId.{SegId}
use Rattle.graph_core.specs.declared.parts.GraphParts.{GraphParts}
use Rattle.octi_grid.specs.declared.dir.Dir.{Dir}
use Rattle.octi_grid.specs.declared.point.GridPoint.{GridPoint}
use Rattle.octi_grid.specs.Walks.{PlainWalk, doubled_of, end_point}
use Rattle.octi_grid.specs.Legal.{is_among, port_at}
use Rattle.grid_board.specs.declared.bounds.Bounds.{Bounds}
use Rattle.walk_search.specs.declared.ends.End.{End}
use Rattle.grid_board.specs.Boards.{empty_board, with_node, with_node_moved, with_walk, BoardParts}
use Rattle.walk_search.specs.Routes.{route}
use Rattle.start_positions.specs.declared.placing.Placing.{Placing}
use Rattle.start_positions.specs.Homes.{grid_under}
use Rattle.segment_router.specs.Ports.{allowed_mask}
use Rattle.segment_router.specs.Orders.{routing_order}

-- routing under way: the board with the nodes and the walks so far, the point of each node, whether it is settled, and the
-- walk of each segment that has its route
pub record Routed : Type 0 where
  pub board : BoardParts
  pub points : List GridPoint
  pub settled : List Bool
  pub walks : List (Option PlainWalk)

-- a board with more nodes
abbrev pub with_nodes : BoardParts → List GridPoint → BoardParts
with_nodes board [] = board
with_nodes board (p ∷ ps) = with_nodes (with_node board p) ps

-- nothing is routed, and each node is at home
abbrev pub none_routed : Bounds → List GridPoint → ℕ → Routed
none_routed grid homes segments = record {
  board = with_nodes (empty_board grid) homes;
  points = homes;
  settled = replicate (length homes) false;
  walks = replicate segments None;
}

-- nothing is routed from a placing of a graph's nodes
abbrev pub begun : GraphParts → Placing → Routed
begun graph placing = none_routed (grid_under placing) placing.points (length graph.ends)

-- the ends of a segment
abbrev pub ends_of : GraphParts → SegId → NodeId × NodeId
ends_of graph s = slice_index_or graph.ends s.0 (record { 0 = 0 }, record { 0 = 0 })

-- the point of a node
abbrev pub node_point : Routed → ℕ → GridPoint
node_point r n = slice_index_or r.points n (record { x = pos 0; y = pos 0 })

-- some segment at the node has its route
abbrev pub is_settled : Routed → ℕ → Bool
is_settled r n = slice_index_or r.settled n false

-- the walk of a segment, where it has its route
abbrev pub walk_at : Routed → SegId → Option PlainWalk
walk_at r s = slice_index_or r.walks s.0 None

-- the port of a segment at an end node, where it has its route
abbrev pub port_by : (NodeId × NodeId) → ℕ → Option PlainWalk → Option Dir
port_by ends n None = None
port_by ends n (Some w) = port_at n (ends, w)

abbrev pub port_at_node : GraphParts → Routed → ℕ → SegId → Option Dir
port_at_node graph r n s = port_by (ends_of graph s) n (walk_at r s)

-- an end of a segment that is to be routed: where its node is, whether it may still settle, and which ports are allowed
abbrev pub end_at : GraphParts → Routed → SegId → ℕ → End
end_at graph r s n = record {
  at = node_point r n;
  is_free = not (is_settled r n);
  ports = allowed_mask (slice_index_or graph.rounds n []) (port_at_node graph r n) s;
}

-- the route of a segment, after those before it: from its lower end to its upper end
abbrev pub route_of : GraphParts → Routed → SegId → Option PlainWalk
route_of graph r s = route r.board (end_at graph r s (ends_of graph s).0.0) (end_at graph r s (ends_of graph s).1.0)

-- a node is settled at a point
abbrev pub with_settled : Routed → ℕ → GridPoint → Routed
with_settled r n p = record {
  board = with_node_moved r.board (node_point r n) p;
  points = slice_set r.points n p;
  settled = slice_set r.settled n true;
  walks = r.walks;
}

-- a segment has its walk, which takes its doubled points
abbrev pub with_walked : Routed → SegId → PlainWalk → Routed
with_walked r s w = record { board = with_walk r.board w; points = r.points; settled = r.settled; walks = slice_set r.walks s.0 (Some w) }

-- a segment gets its route, and its nodes are settled at the ends of it
abbrev pub with_route : GraphParts → Routed → SegId → PlainWalk → Routed
with_route graph r s w = with_walked (with_settled (with_settled r (ends_of graph s).0.0 w.start) (ends_of graph s).1.0 (end_point w)) s w

-- what comes after a segment's route, or the segment where it has none
abbrev pub after_route : SegId → (PlainWalk → Result Routed SegId) → Option PlainWalk → Result Routed SegId
after_route s next None = Err s
after_route s next (Some w) = next w

-- segments are routed one after another; the first that has no route ends it
abbrev pub route_each : GraphParts → List SegId → Routed → Result Routed SegId
route_each graph [] r = Ok r
route_each graph (s ∷ ss) r = after_route s (λ w. route_each graph ss (with_route graph r s w)) (route_of graph r s)

-- the walks of all segments
abbrev pub walks_of : Result Routed SegId → Result (List PlainWalk) SegId
walks_of (Err s) = Err s
walks_of (Ok r) = Ok (filter_map (λ w. w) r.walks)

-- the routes of all segments of a graph from a placing, in the order of routing
abbrev pub routes_from : GraphParts → Placing → Result (List PlainWalk) SegId
routes_from graph placing = walks_of (route_each graph (routing_order graph.lines) (begun graph placing))

-- routing from a placing after the first k segments
abbrev pub routed_after : GraphParts → Placing → ℕ → Result Routed SegId
routed_after graph placing k = route_each graph (take k (routing_order graph.lines)) (begun graph placing)

-- the doubled point is one of a walk, where there is one
abbrev pub has_doubled : GridPoint → Option PlainWalk → Bool
has_doubled d None = false
has_doubled d (Some w) = is_among (doubled_of w) d
