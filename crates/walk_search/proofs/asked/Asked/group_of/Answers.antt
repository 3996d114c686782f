use Rattle.std.proofs.Common.{◌<◌, ◌≤◌, length, arith}
use Rattle.grid_board.specs.Boards.{parts_of}
use Rattle.walk_search.specs.Seats.{seats_of}
use Rattle.walk_search.proofs.SeatFacts.{seats_few}
use Rattle.walk_search.proofs.asked.Asked.group_of.Goals as goal

pub overflow_add-result : goal.overflow_add-result
overflow_add-result c =
    let few : length (seats_of (parts_of c.args.self.now.board.now) c.args.self.now.from) ≤ 9 = seats_few (parts_of c.args.self.now.board.now) c.args.self.now.from in
    let below : c.args.i < length (seats_of (parts_of c.args.self.now.board.now) c.args.self.now.from) = c.requires in
    omega arith
