-- Routing under way, and what holds of it from segment to segment.
use Rattle.std.specs.Prelude.{◌≡◌, ℕ, ◌<◌, Bool, true, false, List, [], ◌∷◌, length, Option, Some, None}
use Rattle.map_base.specs.declared.ids.SegId.{SegId}
use Rattle.graph_core.specs.declared.parts.GraphParts.{GraphParts}
use Rattle.octi_grid.specs.declared.dir.Dir.{Dir}
use Rattle.octi_grid.specs.Legal.{is_even}
use Rattle.octi_grid.specs.Walks.{PlainWalk}
use Rattle.grid_board.specs.Boards.{is_inside, parts_of}
use Rattle.segment_router.specs.declared.routing.Routing.{Routing}
use Rattle.segment_router.specs.Routes.{ends_of, is_settled, node_point, route_of, walk_at, with_route, Routed}

-- routing under way, as it is kept
abbrev pub routed_of : Routing → Routed
routed_of r = record { board = parts_of r.board; points = r.points.items; settled = r.settled.items; walks = r.walks.items }

-- what holds from segment to segment: the nodes stand on the board at even points of their own, and those of segments that
-- have their routes are settled
pub record IsUnderway (graph : GraphParts) (r : Routed) : Type 0 where
  pub points_each : length r.points ≡ length graph.kinds
  pub settled_each : length r.settled ≡ length graph.kinds
  pub walks_each : length r.walks ≡ length graph.ends
  pub on_board : (n : ℕ) → n < length graph.kinds → r.board.is_node (node_point r n) ≡ true
  pub inside : (n : ℕ) → n < length graph.kinds → is_inside r.board (node_point r n) ≡ true
  pub even : (n : ℕ) → n < length graph.kinds → is_even (node_point r n) ≡ true
  pub apart : (n m : ℕ) → n < length graph.kinds → m < length graph.kinds → node_point r n ≡ node_point r m → n ≡ m
  pub low_settled : (s : SegId) (w : PlainWalk) → walk_at r s ≡ Some w → is_settled r (ends_of graph s).0.0 ≡ true
  pub up_settled : (s : SegId) (w : PlainWalk) → walk_at r s ≡ Some w → is_settled r (ends_of graph s).1.0 ≡ true

-- a segment got its route, if it has one
abbrev pub GoesOn : GraphParts → Routed → SegId → Routed → Bool → Type 0
GoesOn graph old s new true = (w : PlainWalk) × (route_of graph old s ≡ Some w) × (new ≡ with_route graph old s w)
GoesOn graph old s new false = route_of graph old s ≡ None

-- the segment with its port, where it has one, and the ports after it
abbrev pub with_known : SegId → Option Dir → List (SegId × Dir) → List (SegId × Dir)
with_known s None rest = rest
with_known s (Some d) rest = (s, d) ∷ rest

-- the ports of a round's segments that have one, in order
abbrev pub known_ports : (SegId → Option Dir) → List SegId → List (SegId × Dir)
known_ports port_of [] = []
known_ports port_of (s ∷ round) = with_known s (port_of s) (known_ports port_of round)
