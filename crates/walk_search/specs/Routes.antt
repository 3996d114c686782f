-- Free walks between two ends, and the route: the least of them.
use Rattle.std.specs.Prelude.{◌≡◌, ◌<◌, ◌⊎◌, ℕ, zero, suc, ◌+◌, ◌*◌, ◌==◌, ◌||◌, ◌&&◌, nat_lt, nat_le, Bool, false, not, List, [], ◌∷◌, length, map, filter, take, drop, if◌then◌else◌, Option, Some, None}
use Rattle.std.specs.Int.{bit_at}
use Rattle.std.specs.List.{flat_map, list_all, list_any}
use Rattle.least_path.specs.Least.{least_by, is_not_after}
use Rattle.octi_grid.specs.declared.dir.Dir.{Dir}
use Rattle.octi_grid.specs.declared.dir.Dir.TheVariants as dir
use Rattle.octi_grid.specs.declared.point.GridPoint.{GridPoint}
use Rattle.octi_grid.specs.Ways.{are_one, doubled, number_of}
use Rattle.octi_grid.specs.Walks.{PlainWalk, points_of, doubled_of, end_point, start_port, end_port, cost_of}
use Rattle.octi_grid.specs.Legal.{is_among}
use Rattle.walk_search.specs.declared.ends.End.{End}
use Rattle.grid_board.specs.Boards.{BoardParts, is_inside, cells_of}
use Rattle.grid_board.specs.Points.{is_lower}
use Rattle.walk_search.specs.Seats.{seats_of, seat_cost}

-- there is a port, and the mask allows it by the bit of its direction
abbrev pub allows : ℕ → Option Dir → Bool
allows mask None = false
allows mask (Some d) = bit_at mask (number_of d) == 1

-- the points of a walk between its ends
abbrev pub inner_points : PlainWalk → List GridPoint
inner_points w = drop 1 (take (length w.steps) (points_of w))

-- the doubled point is that of an end of the walk that is settled
abbrev pub is_settled_end : End → End → PlainWalk → GridPoint → Bool
is_settled_end from to w d = (not from.is_free && are_one (doubled w.start) d) || (not to.is_free && are_one (doubled (end_point w)) d)

-- a free walk from a seat of the one end to another point, a seat of the other end: it stays on the board, has no node's
-- point between its ends, shares no doubled point with a walk of the board but at a settled end, and has allowed ports
abbrev pub is_free : BoardParts → End → End → PlainWalk → Bool
is_free board from to w =
    is_among (seats_of board from) w.start
    && is_among (seats_of board to) (end_point w)
    && not (are_one w.start (end_point w))
    && list_all (is_inside board) (points_of w)
    && not (list_any board.is_node (inner_points w))
    && list_all (λ d. not (board.is_taken d) || is_settled_end from to w d) (doubled_of w)
    && allows from.ports (start_port w)
    && allows to.ports (end_port w)

-- what a walk costs with its two seats
abbrev pub total_of : End → End → PlainWalk → ℕ
total_of from to w = seat_cost from.at w.start + cost_of w + seat_cost to.at (end_point w)

-- of two walks of one cost the first one's start is lower, or both have the same start and its list of direction numbers
-- is not after the other's in the order of dictionaries
abbrev pub is_first : PlainWalk → PlainWalk → Bool
is_first v w = is_lower v.start w.start || (are_one v.start w.start && is_not_after (map number_of v.steps) (map number_of w.steps))

-- a walk that costs less with its seats is better; among equals the one that is first
abbrev pub is_no_worse : End → End → PlainWalk → PlainWalk → Bool
is_no_worse from to v w = nat_lt (total_of from to v) (total_of from to w) || ((total_of from to v == total_of from to w) && is_first v w)

-- the eight directions
abbrev pub directions : List Dir
directions = dir.N ∷ dir.NE ∷ dir.E ∷ dir.SE ∷ dir.S ∷ dir.SW ∷ dir.W ∷ dir.NW ∷ []

-- the lists of at most so many directions
abbrev pub lists_upto : ℕ → List (List Dir)
lists_upto zero = [] ∷ []
lists_upto (suc n) = [] ∷ flat_map (λ d. map (λ (ds : List Dir). d ∷ ds) (lists_upto n)) directions

-- more steps than a walk has that is the least: it comes to no point twice by the same direction
abbrev pub most_steps : BoardParts → ℕ
most_steps board = 90 * cells_of board.bounds + 1

-- the walks of at most so many steps from a seat
abbrev pub walks_from : ℕ → GridPoint → List PlainWalk
walks_from most start = map (λ ds. record { start = start; steps = ds }) (lists_upto most)

-- the free walks with at most as many steps as matter
abbrev pub free_walks : BoardParts → End → End → List PlainWalk
free_walks board from to = filter (is_free board from to) (flat_map (walks_from (most_steps board)) (seats_of board from))

-- the best of walks, and none where there is none
abbrev pub best_of : (PlainWalk → PlainWalk → Bool) → List PlainWalk → Option PlainWalk
best_of is_no_worse [] = None
best_of is_no_worse (w ∷ ws) = Some (least_by is_no_worse w (w ∷ ws))

-- the route: the best free walk, and none where there is none
abbrev pub route : BoardParts → End → End → Option PlainWalk
route board from to = best_of (is_no_worse from to) (free_walks board from to)

-- the route, or none where it costs more than a limit with its seats and one more
abbrev pub IsRouteUpTo : Option ℕ → End → End → Option PlainWalk → Option PlainWalk → Type 0
IsRouteUpTo None from to r walk = walk ≡ r
IsRouteUpTo (Some limit) from to r walk = (walk ≡ r) ⊎ ((walk ≡ None) × ((w : PlainWalk) → r ≡ Some w → limit < total_of from to w + 1))

-- a walk, if it costs at most so much
abbrev pub if_within : ℕ → Option PlainWalk → Option PlainWalk
if_within most None = None
if_within most (Some w) = if nat_le (cost_of w) most then Some w else None
