-- Boards from -6 to 8 both ways, and one from -8 to 24, with walks that are free or not, and their costs.
use Rattle.std.proofs.Common.{◌≡◌, refl, true, false, ℤ, pos, negsuc, List, [], ◌∷◌, replicate}
use Rattle.octi_grid.specs.declared.dir.Dir.{Dir}
use Rattle.octi_grid.specs.declared.dir.Dir.TheVariants as dir
use Rattle.octi_grid.specs.declared.point.GridPoint.{GridPoint}
use Rattle.octi_grid.specs.Walks.{PlainWalk}
use Rattle.walk_search.specs.declared.ends.End.{End}
use Rattle.grid_board.specs.declared.bounds.Bounds.{Bounds}
use Rattle.grid_board.specs.Boards.{BoardParts, empty_board, with_node, with_walk}
use Rattle.walk_search.specs.Seats.{seats_of}
use Rattle.walk_search.specs.Routes.{is_free, total_of, is_no_worse}
use Rattle.walk_search.specs.Reaching.{reach_of}

abbrev at : ℤ → ℤ → GridPoint
at x y = record { x = x; y = y }

abbrev settled : GridPoint → End
settled p = record { at = p; is_free = false; ports = 255 }

abbrev loose : GridPoint → End
loose p = record { at = p; is_free = true; ports = 255 }

abbrev walk : GridPoint → List Dir → PlainWalk
walk start steps = record { start = start; steps = steps }

abbrev small : Bounds
small = record { left = negsuc 5; right = pos 8; bottom = negsuc 5; top = pos 8 }

abbrev large : Bounds
large = record { left = negsuc 7; right = pos 24; bottom = negsuc 7; top = pos 24 }

abbrev two_nodes : BoardParts
two_nodes = with_node (with_node (empty_board small) (at (pos 0) (pos 0))) (at (pos 4) (pos 0))

abbrev from : End
from = settled (at (pos 0) (pos 0))

abbrev to : End
to = settled (at (pos 4) (pos 0))

-- round a wall: a walk stands between the two nodes, so the straight walk is not free; the best ways round lie outside
-- the box of the ends, and of the two that cost the same the one to the north-east is first
abbrev wall : BoardParts
wall = with_walk two_nodes (walk (at (pos 2) (negsuc 0)) (dir.N ∷ dir.N ∷ []))

abbrev over : PlainWalk
over = walk (at (pos 0) (pos 0)) (dir.NE ∷ dir.NE ∷ dir.SE ∷ dir.SE ∷ [])

abbrev under : PlainWalk
under = walk (at (pos 0) (pos 0)) (dir.SE ∷ dir.SE ∷ dir.NE ∷ dir.NE ∷ [])

straight_is_not_free : is_free wall from to (walk (at (pos 0) (pos 0)) (dir.E ∷ dir.E ∷ dir.E ∷ dir.E ∷ [])) ≡ false
straight_is_not_free = refl

straight_without_wall : is_free two_nodes from to (walk (at (pos 0) (pos 0)) (dir.E ∷ dir.E ∷ dir.E ∷ dir.E ∷ [])) ≡ true
straight_without_wall = refl

over_is_free : is_free wall from to over ≡ true
over_is_free = refl

over_costs : total_of from to over ≡ 22
over_costs = refl

under_is_free : is_free wall from to under ≡ true
under_is_free = refl

under_costs : total_of from to under ≡ 22
under_costs = refl

over_is_first : is_no_worse from to over under ≡ true
over_is_first = refl

under_is_not_first : is_no_worse from to under over ≡ false
under_is_not_first = refl

-- a port that the mask leaves out, and a walk that is too short
only_east : is_free wall (record { at = at (pos 0) (pos 0); is_free = false; ports = 4 }) to over ≡ false
only_east = refl

ends_elsewhere : is_free wall from to (walk (at (pos 0) (pos 0)) (dir.NE ∷ dir.NE ∷ [])) ≡ false
ends_elsewhere = refl

-- two diagonals of one cell don't cross, and the way round costs 27
abbrev corners : BoardParts
corners =
    with_walk
    (with_node (with_node (with_node (with_node (empty_board small) (at (pos 0) (pos 0))) (at (pos 2) (pos 2))) (at (pos 2) (pos 0))) (at (pos 0) (pos 2)))
    (walk (at (pos 0) (pos 0)) (dir.NE ∷ dir.NE ∷ []))

abbrev right : End
right = settled (at (pos 2) (pos 0))

abbrev upper : End
upper = settled (at (pos 0) (pos 2))

crossing_is_not_free : is_free corners right upper (walk (at (pos 2) (pos 0)) (dir.NW ∷ dir.NW ∷ [])) ≡ false
crossing_is_not_free = refl

abbrev between : BoardParts
between =
    with_walk (with_node (with_node (empty_board small) (at (pos 2) (pos 0))) (at (pos 0) (pos 2))) (walk (at (pos 1) (pos 1)) (dir.NE ∷ []))

crossing_in_a_middle : is_free between right upper (walk (at (pos 2) (pos 0)) (dir.N ∷ dir.NW ∷ dir.W ∷ [])) ≡ false
crossing_in_a_middle = refl

round_is_free : is_free corners right upper (walk (at (pos 2) (pos 0)) (dir.NE ∷ dir.N ∷ dir.NW ∷ dir.W ∷ dir.SW ∷ [])) ≡ true
round_is_free = refl

round_costs : total_of right upper (walk (at (pos 2) (pos 0)) (dir.NE ∷ dir.N ∷ dir.NW ∷ dir.W ∷ dir.SW ∷ [])) ≡ 27
round_costs = refl

-- an end that is shut in by a walk is put beside its home
abbrev shut_in : BoardParts
shut_in = with_walk two_nodes (walk (at (negsuc 0) (negsuc 0)) (dir.N ∷ dir.N ∷ dir.E ∷ dir.E ∷ dir.S ∷ dir.S ∷ dir.W ∷ []))

seats_beside : seats_of shut_in (loose (at (pos 0) (pos 0))) ≡ at (negsuc 1) (negsuc 1) ∷ at (pos 0) (negsuc 1) ∷ at (pos 2) (negsuc 1) ∷ at (negsuc 1) (pos 0) ∷ at (pos 0) (pos 0) ∷ at (pos 2) (pos 0) ∷ at (negsuc 1) (pos 2) ∷ at (pos 0) (pos 2) ∷ at (pos 2) (pos 2) ∷ []
seats_beside = refl

no_seat_on_a_node : seats_of shut_in (loose (at (pos 4) (pos 0))) ≡ at (pos 2) (negsuc 1) ∷ at (pos 4) (negsuc 1) ∷ at (pos 6) (negsuc 1) ∷ at (pos 2) (pos 0) ∷ at (pos 4) (pos 0) ∷ at (pos 6) (pos 0) ∷ at (pos 2) (pos 2) ∷ at (pos 4) (pos 2) ∷ at (pos 6) (pos 2) ∷ []
no_seat_on_a_node = refl

beside_is_free : is_free shut_in (loose (at (pos 0) (pos 0))) to (walk (at (pos 2) (pos 0)) (dir.E ∷ dir.E ∷ [])) ≡ true
beside_is_free = refl

beside_costs : total_of (loose (at (pos 0) (pos 0))) to (walk (at (pos 2) (pos 0)) (dir.E ∷ dir.E ∷ [])) ≡ 18
beside_costs = refl

both_loose : is_free shut_in (loose (at (pos 0) (pos 0))) (loose (at (pos 4) (pos 0))) (walk (at (pos 2) (pos 0)) (dir.E ∷ dir.E ∷ [])) ≡ true
both_loose = refl

neither_loose : is_free shut_in from to (walk (at (pos 2) (pos 0)) (dir.E ∷ dir.E ∷ [])) ≡ false
neither_loose = refl

-- a walk does not pass the home of its own end
past_its_home : is_free two_nodes (loose (at (pos 0) (pos 0))) to (walk (at (negsuc 1) (pos 0)) (dir.E ∷ dir.E ∷ dir.E ∷ dir.E ∷ dir.E ∷ dir.E ∷ [])) ≡ false
past_its_home = refl

-- two ends that may both be moved stay at their homes
abbrev wide : BoardParts
wide = with_node (with_node (empty_board large) (at (pos 0) (pos 0))) (at (pos 16) (pos 2))

homes_are_free : is_free wide (loose (at (pos 0) (pos 0))) (loose (at (pos 16) (pos 2))) (walk (at (pos 0) (pos 0)) (dir.NE ∷ dir.NE ∷ replicate 14 dir.E)) ≡ true
homes_are_free = refl

homes_cost : total_of (loose (at (pos 0) (pos 0))) (loose (at (pos 16) (pos 2))) (walk (at (pos 0) (pos 0)) (dir.NE ∷ dir.NE ∷ replicate 14 dir.E)) ≡ 67
homes_cost = refl

homes_reach : reach_of (at (pos 0) (pos 0)) (at (pos 16) (pos 2)) ≡ 66
homes_reach = refl
