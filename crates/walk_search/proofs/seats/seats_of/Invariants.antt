use Rattle.std.proofs.Common.{◌≡◌, ◌++◌, drop, filter, map}
use Rattle.grid_board.specs.Boards.{parts_of}
use Rattle.walk_search.specs.Seats.{is_free_seat, shifted, shifts}
use Rattle.walk_search.proofs.seats.seats_of.Given as goal

-- the seats so far, and those of the shifts that are left
abbrev pub invariant-loop-shift : goal.invariant-loop-shift
invariant-loop-shift l =
    l.seats.items ++ filter (is_free_seat (parts_of l.board) l.end.at) (map (shifted l.end.at) (drop l.shift-index shifts))
    ≡ filter (is_free_seat (parts_of l.board) l.end.at) (map (shifted l.end.at) shifts)
