use Rattle.std.proofs.Common.{◌∙◌, ap, ◌++◌, filter, map, pos}
use Rattle.octi_grid.specs.declared.point.GridPoint.{GridPoint}
use Rattle.grid_board.specs.Boards.{parts_of}
use Rattle.walk_search.specs.Seats.{is_free_seat, kept_seat, shifted, shifts}
use Rattle.walk_search.proofs.SeatFacts.{seats_more}
use Rattle.walk_search.proofs.seats.seats_of.Goals as goal

pub loop-shift-preserved : goal.loop-shift-preserved
loop-shift-preserved c =
    let board = parts_of c.args.board.now in
    seats_more board c.args.end.at c.loop-shift.seats.items c.add_seat.new.seats.items (filter (is_free_seat board c.args.end.at) (map (shifted c.args.end.at) shifts)) c.loop-shift.shift-index (pos 0, pos 0)
    c.loop-shift-test.true (c.in_ok-add_seat.ensures ∙ ap (λ (p : GridPoint). c.loop-shift.seats.items ++ kept_seat board c.args.end.at p) c.shifted.ensures) c.loop-shift.invariant
