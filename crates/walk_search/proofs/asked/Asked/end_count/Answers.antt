use Rattle.std.proofs.Common.{arith}
use Rattle.grid_board.specs.Boards.{parts_of}
use Rattle.walk_search.proofs.SeatFacts.{kept_few}
use Rattle.walk_search.proofs.asked.Asked.end_count.Goals as goal

pub overflow_cast-result : goal.overflow_cast-result
overflow_cast-result c =
    let a = c.args.self.now in
    omega (arith, c.len.ensures, kept_few (parts_of a.board.now) a.to a.ends.items a.asked.ends_are)

pub returns-clause-within : goal.returns-clause-within
returns-clause-within c =
    let a = c.args.self.now in
    omega (arith, c.len.ensures, kept_few (parts_of a.board.now) a.to a.ends.items a.asked.ends_are)
