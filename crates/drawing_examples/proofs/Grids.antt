-- Worked examples of the definitions.
use Rattle.std.proofs.Common.{◌≡◌, ℕ, true, false, ℤ, pos, negsuc, List, [], ◌∷◌, Some, None, refl}
use Rattle.map_base.specs.declared.ids.NodeId.{NodeId}
use Rattle.map_base.specs.declared.ids.SegId.{SegId}
use Rattle.graph_core.specs.declared.parts.GraphParts.{GraphParts}
use Rattle.octi_grid.specs.declared.dir.Dir.{Dir}
use Rattle.octi_grid.specs.declared.dir.Dir.TheVariants as dir
use Rattle.octi_grid.specs.declared.point.GridPoint.{GridPoint}
use Rattle.octi_grid.specs.declared.drawing.DrawWhy.TheVariants as why
use Rattle.octi_grid.specs.Ways.{after, doubled_from}
use Rattle.octi_grid.specs.Costs.{turn_between, way_cost}
use Rattle.octi_grid.specs.Walks.{PlainWalk}
use Rattle.octi_grid.specs.Legal.{are_clockwise, first_illegal}

abbrev at : ℤ → ℤ → GridPoint
at x y = record { x = x; y = y }

abbrev walk : GridPoint → List Dir → PlainWalk
walk p ds = record { start = p; steps = ds }

abbrev seg : ℕ → SegId
seg n = record { 0 = n }

abbrev ends : ℕ → ℕ → NodeId × NodeId
ends a b = (record { 0 = a }, record { 0 = b })

abbrev graph_of : List (NodeId × NodeId) → List (List SegId) → GraphParts
graph_of es rounds = record { kinds = []; places = []; ends = es; lines = []; rounds = rounds; joins = [] }

-- two half steps a step
doubled_points : doubled_from (at (pos 0) (pos 0)) (dir.NE ∷ dir.E ∷ []) ≡ at (pos 0) (pos 0) ∷ at (pos 1) (pos 1) ∷ at (pos 2) (pos 2) ∷ at (pos 3) (pos 2) ∷ at (pos 4) (pos 2) ∷ []
doubled_points = refl

-- turns cost by their angle, either way round
turn_right : turn_between dir.NW dir.E ≡ 3
turn_right = refl

turn_left : turn_between dir.N dir.SW ≡ 3
turn_left = refl

reversal : turn_between dir.SE dir.NW ≡ 4
reversal = refl

-- round a wall, and round a diagonal
over_the_wall : way_cost (dir.NE ∷ dir.NE ∷ dir.SE ∷ dir.SE ∷ []) ≡ 22
over_the_wall = refl

round_the_diagonal : way_cost (dir.NE ∷ dir.N ∷ dir.NW ∷ dir.W ∷ dir.SW ∷ []) ≡ 27
round_the_diagonal = refl

round_the_diagonal_end : after (at (pos 2) (pos 0)) (dir.NE ∷ dir.N ∷ dir.NW ∷ dir.W ∷ dir.SW ∷ []) ≡ at (pos 0) (pos 2)
round_the_diagonal_end = refl

-- a step along an axis costs 4, a turn of 45 degrees 1, and a diagonal step 5
one_turn : way_cost (dir.E ∷ dir.NE ∷ []) ≡ 10
one_turn = refl

one_turn_end : after (at (pos 0) (pos 0)) (dir.E ∷ dir.NE ∷ []) ≡ at (pos 2) (pos 1)
one_turn_end = refl

-- a walk between even points is legal, and one that ends at an odd point is not
abbrev two_stations : GraphParts
two_stations = graph_of (ends 0 1 ∷ []) ((seg 0 ∷ []) ∷ (seg 0 ∷ []) ∷ [])

even_ends : first_illegal two_stations (walk (at (pos 0) (pos 0)) (dir.NE ∷ dir.NE ∷ dir.E ∷ dir.E ∷ []) ∷ []) ≡ None
even_ends = refl

odd_end : first_illegal two_stations (walk (at (pos 0) (pos 0)) (dir.NE ∷ dir.NE ∷ dir.NE ∷ []) ∷ [])
    ≡ Some (seg 0, why.Ends)
odd_end = refl

-- two trunks of one segment, each with two branches
trunks : GraphParts
trunks = graph_of (ends 0 3 ∷ ends 0 1 ∷ ends 0 4 ∷ ends 1 2 ∷ ends 2 5 ∷ ends 2 6 ∷ [])
    ((seg 0 ∷ seg 1 ∷ seg 2 ∷ []) ∷ (seg 3 ∷ seg 1 ∷ []) ∷ (seg 4 ∷ seg 5 ∷ seg 3 ∷ []) ∷ (seg 0 ∷ []) ∷ (seg 2 ∷ []) ∷ (seg 4 ∷ []) ∷ (seg 5 ∷ []) ∷ [])

abbrev further : List PlainWalk
further =
    walk (at (pos 0) (pos 2)) (dir.E ∷ dir.E ∷ []) ∷ walk (at (pos 0) (pos 2)) (dir.S ∷ dir.S ∷ []) ∷ walk (at (pos 2) (pos 2)) (dir.E ∷ dir.E ∷ [])
    ∷ walk (at (pos 4) (pos 2)) (dir.N ∷ dir.N ∷ []) ∷ walk (at (pos 4) (pos 2)) (dir.S ∷ dir.S ∷ []) ∷ []

straight_trunks : first_illegal trunks (walk (at (pos 0) (pos 2)) (dir.N ∷ dir.N ∷ []) ∷ further) ≡ None
unfolding trunks
straight_trunks = refl

-- walk 1 puts node 1 on the point of node 3
one_point_for_two : first_illegal trunks (walk (at (pos 0) (pos 2)) (dir.E ∷ dir.E ∷ []) ∷ further) ≡ Some (seg 1, why.Ends)
unfolding trunks
one_point_for_two = refl

-- an odd point, and an end that is not where the node is
odd_point : first_illegal trunks (walk (at (pos 0) (pos 2)) (dir.N ∷ []) ∷ further) ≡ Some (seg 0, why.Ends)
unfolding trunks
odd_point = refl

moved_node : first_illegal trunks (walk (at (pos 0) (pos 4)) (dir.N ∷ dir.N ∷ []) ∷ further) ≡ Some (seg 1, why.Ends)
unfolding trunks
moved_node = refl

abbrev apart : GraphParts
apart = graph_of (ends 0 1 ∷ ends 2 3 ∷ []) ((seg 0 ∷ []) ∷ (seg 0 ∷ []) ∷ (seg 1 ∷ []) ∷ (seg 1 ∷ []) ∷ [])

-- two diagonals of one cell cross in its middle
crossing_diagonals : first_illegal apart (walk (at (pos 0) (pos 0)) (dir.NE ∷ dir.NE ∷ []) ∷ walk (at (pos 0) (pos 2)) (dir.S ∷ dir.SE ∷ dir.E ∷ []) ∷ []) ≡ Some (seg 1, why.Meets)
crossing_diagonals = refl

-- a walk through another node's point, where that node is known, and where it comes to be known
through_a_known_node : first_illegal apart (walk (at (pos 0) (pos 0)) (dir.E ∷ dir.E ∷ []) ∷ walk (at (pos 2) (negsuc 1)) (dir.N ∷ dir.N ∷ dir.N ∷ dir.N ∷ []) ∷ []) ≡ Some (seg 1, why.Meets)
through_a_known_node = refl

through_a_later_node : first_illegal apart (walk (at (pos 2) (negsuc 1)) (dir.N ∷ dir.N ∷ dir.N ∷ dir.N ∷ []) ∷ walk (at (pos 0) (pos 0)) (dir.E ∷ dir.E ∷ []) ∷ []) ≡ Some (seg 1, why.Meets)
through_a_later_node = refl

-- a walk that comes back to itself
loop_on_the_way : first_illegal apart (walk (at (pos 0) (pos 0)) (dir.E ∷ dir.E ∷ dir.N ∷ dir.SW ∷ dir.S ∷ dir.SE ∷ []) ∷ []) ≡ Some (seg 0, why.Meets)
loop_on_the_way = refl

abbrev star : GraphParts
star = graph_of (ends 0 1 ∷ ends 0 2 ∷ ends 0 3 ∷ []) ((seg 0 ∷ seg 1 ∷ seg 2 ∷ []) ∷ (seg 0 ∷ []) ∷ (seg 1 ∷ []) ∷ (seg 2 ∷ []) ∷ [])

abbrev ray : Dir → PlainWalk
ray d = walk (at (pos 0) (pos 0)) (d ∷ d ∷ [])

-- the round of three, also over north, and reversed
round_of_three : first_illegal star (ray dir.SW ∷ ray dir.N ∷ ray dir.E ∷ []) ≡ None
round_of_three = refl

reversed_round : first_illegal star (ray dir.SW ∷ ray dir.E ∷ ray dir.N ∷ []) ≡ Some (seg 2, why.Ports)
reversed_round = refl

same_port_twice : are_clockwise (dir.N ∷ dir.N ∷ []) ≡ false
same_port_twice = refl

full_round : are_clockwise (dir.S ∷ dir.SW ∷ dir.W ∷ dir.NW ∷ dir.N ∷ dir.NE ∷ dir.E ∷ dir.SE ∷ []) ≡ true
full_round = refl
