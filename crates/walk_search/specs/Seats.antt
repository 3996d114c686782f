-- Seats: where an end of a walk may be put.
use Rattle.std.specs.Prelude.{ℕ, ◌+◌, ◌*◌, ◌||◌, ◌&&◌, Bool, not, ℤ, pos, negsuc, ◌+ℤ◌, ◌-ℤ◌, unsigned_abs, List, [], ◌∷◌, map, filter, if◌then◌else◌}
use Rattle.octi_grid.specs.declared.point.GridPoint.{GridPoint}
use Rattle.octi_grid.specs.Ways.{are_one, doubled}
use Rattle.walk_search.specs.declared.ends.End.{End}
use Rattle.grid_board.specs.Boards.{BoardParts, is_inside}

-- a point so far east and north of another
abbrev pub shifted : GridPoint → ℤ × ℤ → GridPoint
shifted p by = record { x = p.x +ℤ by.0; y = p.y +ℤ by.1 }

-- how far a seat may lie from an even home to be even and to differ by at most 2 in each coordinate, by the least y and
-- then the least x
abbrev pub shifts : List (ℤ × ℤ)
shifts =
    (negsuc 1, negsuc 1) ∷ (pos 0, negsuc 1) ∷ (pos 2, negsuc 1) ∷ (negsuc 1, pos 0) ∷ (pos 0, pos 0) ∷ (pos 2, pos 0)
    ∷ (negsuc 1, pos 2) ∷ (pos 0, pos 2) ∷ (pos 2, pos 2) ∷ []

-- an end that is not settled may be put on a point of the board that is its home or no node's point, and of no walk
abbrev pub is_free_seat : BoardParts → GridPoint → GridPoint → Bool
is_free_seat board home p = is_inside board p && (are_one home p || not (board.is_node p)) && not (board.is_taken (doubled p))

-- the point, if an end may be put there
abbrev pub kept_seat : BoardParts → GridPoint → GridPoint → List GridPoint
kept_seat board home p = if is_free_seat board home p then p ∷ [] else []

-- the seats of an end, by the least y and then the least x: its point, where it is settled, else the points near its
-- home where it may be put
abbrev pub seats_of : BoardParts → End → List GridPoint
seats_of board end = if end.is_free then filter (is_free_seat board end.at) (map (shifted end.at) shifts) else end.at ∷ []

-- what a seat costs: 5 times the sum of its differences from the home
abbrev pub seat_cost : GridPoint → GridPoint → ℕ
seat_cost home p = 5 * (unsigned_abs (p.x -ℤ home.x) + unsigned_abs (p.y -ℤ home.y))
