-- Worked examples of the definitions.
use Rattle.std.proofs.Common.{◌≡◌, ℕ, true, false, ℤ, pos, negsuc, List, [], ◌∷◌, length, take, Some, refl, arith}
use Rattle.std.proofs.lemmas.Int.{ints}
use Rattle.map_base.specs.declared.ids.NodeId.{NodeId}
use Rattle.map_base.specs.declared.ids.SegId.{SegId}
use Rattle.map_base.specs.declared.ids.LineId.{LineId}
use Rattle.graph_core.specs.declared.parts.GraphParts.{GraphParts}
use Rattle.graph_core.specs.declared.parts.NodeKind.TheVariants as kind
use Rattle.octi_grid.specs.declared.dir.Dir.TheVariants as dir
use Rattle.octi_grid.specs.declared.point.GridPoint.{GridPoint}
use Rattle.octi_grid.specs.Walks.{PlainWalk}
use Rattle.start_positions.specs.declared.placing.Placing.{Placing}
use Rattle.map_method.specs.declared.drawing_plan.DrawingPlan.{DrawingPlan}
use Rattle.map_method.specs.declared.spread.Spread.{Spread}
use Rattle.map_method.specs.declared.spread.Spread.TheVariants.{Percent, Auto}
use Rattle.segment_router.specs.declared.attempts.Attempt.{Attempt}
use Rattle.segment_router.specs.Routing.{attempts_of}
use Rattle.segment_router.specs.Ports.{allowed_mask, are_spaced, port_in}
use Rattle.segment_router.specs.Orders.{routing_order}
use Rattle.segment_router.specs.Routes.{begun, end_at, node_point, port_at_node, with_route, Routed}
use Rattle.start_positions.specs.Homes.{IsPlacing}

abbrev seg : ℕ → SegId
seg n = record { 0 = n }

abbrev three : List SegId
three = seg 0 ∷ seg 1 ∷ seg 2 ∷ []

-- a first port, where up to eight segments are round the node, and none where there are nine
first_port : allowed_mask three (port_in []) (seg 1) ≡ 255
first_port = refl

nine_at_one_node : allowed_mask (seg 0 ∷ seg 1 ∷ seg 2 ∷ seg 3 ∷ seg 4 ∷ seg 5 ∷ seg 6 ∷ seg 7 ∷ seg 8 ∷ []) (port_in []) (seg 0) ≡ 0
nine_at_one_node = refl

-- any other port beside one; two places on there has to be room for the segment between
beside_one : allowed_mask (seg 0 ∷ seg 1 ∷ []) (port_in ((seg 0, dir.N) ∷ [])) (seg 1) ≡ 254
beside_one = refl

two_places_on : allowed_mask three (port_in ((seg 0, dir.N) ∷ [])) (seg 2) ≡ 252
two_places_on = refl

-- between two that are near there is one port, and over north there are more
between_two : allowed_mask three (port_in ((seg 0, dir.N) ∷ (seg 2, dir.E) ∷ [])) (seg 1) ≡ 2
between_two = refl

over_north : allowed_mask three (port_in ((seg 0, dir.E) ∷ (seg 1, dir.W) ∷ [])) (seg 2) ≡ 131
over_north = refl

reversed_round : are_spaced 3 ((0, dir.N) ∷ (1, dir.W) ∷ (2, dir.E) ∷ []) ≡ false
reversed_round = refl

abbrev lines : List ℕ → List LineId
lines [] = []
lines (n ∷ ns) = record { 0 = n } ∷ lines ns

-- more lines first, then by number
by_lines : routing_order (lines (0 ∷ []) ∷ lines (0 ∷ 1 ∷ []) ∷ lines (2 ∷ []) ∷ lines (3 ∷ 4 ∷ []) ∷ []) ≡ seg 1 ∷ seg 3 ∷ seg 0 ∷ seg 2 ∷ []
by_lines = refl

-- a graph of two segments at one node, and homes for its nodes
abbrev grid_point : ℤ → ℤ → GridPoint
grid_point x y = record { x = x; y = y }

abbrev node : ℕ → NodeId
node n = record { 0 = n }

abbrev corner : GraphParts
corner = record {
  kinds = kind.Junction ∷ kind.Junction ∷ kind.Junction ∷ [];
  places = record { x = pos 0; y = pos 0 } ∷ record { x = pos 4; y = pos 0 } ∷ record { x = pos 0; y = pos 4 } ∷ [];
  ends = (node 0, node 1) ∷ (node 0, node 2) ∷ [];
  lines = lines (0 ∷ []) ∷ lines (0 ∷ []) ∷ [];
  rounds = (seg 1 ∷ seg 0 ∷ []) ∷ (seg 0 ∷ []) ∷ (seg 1 ∷ []) ∷ [];
  joins = [] ∷ [] ∷ [] ∷ [];
}

abbrev homes_of_corner : Placing
homes_of_corner = record { points = grid_point (pos 0) (pos 0) ∷ grid_point (pos 4) (pos 0) ∷ grid_point (pos 0) (pos 4) ∷ []; left = negsuc 5; right = pos 8; bottom = negsuc 5; top = pos 8 }

homes_fit : IsPlacing corner homes_of_corner
homes_fit = record {
  grid = record {
    left = record { low = omega (arith, ints); high = omega (arith, ints) };
    right = record { low = omega (arith, ints); high = omega (arith, ints) };
    bottom = record { low = omega (arith, ints); high = omega (arith, ints) };
    top = record { low = omega (arith, ints); high = omega (arith, ints) };
    across = omega (arith, ints);
    upwards = omega (arith, ints);
  };
  one_each = refl;
  distinct = refl;
  even = refl;
  inside = refl;
}

-- after a route from home to home: both nodes are settled, the third one is not
abbrev straight : PlainWalk
straight = record { start = grid_point (pos 0) (pos 0); steps = dir.E ∷ dir.E ∷ dir.E ∷ dir.E ∷ [] }

abbrev after_straight : Routed
after_straight = with_route corner (begun corner homes_of_corner) (seg 0) straight

settled_end : end_at corner after_straight (seg 1) 0 ≡ record { at = grid_point (pos 0) (pos 0); is_free = false; ports = 251 }
settled_end = refl

free_end : end_at corner after_straight (seg 1) 2 ≡ record { at = grid_point (pos 0) (pos 4); is_free = true; ports = 255 }
free_end = refl

port_at_its_end : port_at_node corner after_straight 1 (seg 0) ≡ Some dir.W
port_at_its_end = refl

middle_taken : after_straight.board.is_taken (grid_point (pos 1) (pos 0)) ≡ true
middle_taken = refl

beside_not_taken : after_straight.board.is_taken (grid_point (pos 1) (pos 1)) ≡ false
beside_not_taken = refl

-- after a route from a seat beside the home: the node's point is the seat, and no longer the home
abbrev after_seat : Routed
after_seat = with_route corner (begun corner homes_of_corner) (seg 0) (record { start = grid_point (pos 2) (pos 0); steps = dir.E ∷ dir.E ∷ [] })

moved_to_seat : node_point after_seat 0 ≡ grid_point (pos 2) (pos 0)
moved_to_seat = refl

seat_is_node : after_seat.board.is_node (grid_point (pos 2) (pos 0)) ≡ true
seat_is_node = refl

home_is_free : after_seat.board.is_node (grid_point (pos 0) (pos 0)) ≡ false
home_is_free = refl

others_stay : after_seat.board.is_node (grid_point (pos 0) (pos 4)) ≡ true
others_stay = refl

-- the attempts: each spread on a grid before the next grid
abbrev try : ℕ → ℕ → Attempt
try fineness percent = record { fineness = fineness; percent = percent }

abbrev plan : Spread → ℕ → ℕ → DrawingPlan
plan spread coarsest finest = record { cell = 0; spread = spread; coarsest = coarsest; finest = finest; straight = 0 }

as_before : attempts_of (plan (Percent 0) 1 4) ≡ try 1 0 ∷ try 2 0 ∷ try 4 0 ∷ []
as_before = refl

up_to_eight : attempts_of (plan (Percent 35) 1 8) ≡ try 1 35 ∷ try 2 35 ∷ try 4 35 ∷ try 8 35 ∷ []
up_to_eight = refl

from_two : attempts_of (plan (Percent 0) 2 8) ≡ try 2 0 ∷ try 4 0 ∷ try 8 0 ∷ []
from_two = refl

four_alone : attempts_of (plan (Percent 0) 4 4) ≡ try 4 0 ∷ []
four_alone = refl

all_attempts : length (attempts_of (plan Auto 1 16)) ≡ 55
all_attempts = refl

spreads_first : take 13 (attempts_of (plan Auto 1 16))
    ≡ try 1 0 ∷ try 1 10 ∷ try 1 20 ∷ try 1 30 ∷ try 1 40 ∷ try 1 50 ∷ try 1 60 ∷ try 1 70 ∷ try 1 80 ∷ try 1 90 ∷ try 1 100 ∷ try 2 0 ∷ try 2 10 ∷ []
spreads_first = refl
