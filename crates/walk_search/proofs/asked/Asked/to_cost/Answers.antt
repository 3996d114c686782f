use Rattle.grid_board.specs.Boards.{parts_of}
use Rattle.grid_board.proofs.Ways.{within_board}
use Rattle.walk_search.proofs.asked.Asked.to_cost.Goals as goal

pub seat_cost-requires-clause-home : goal.seat_cost-requires-clause-home
seat_cost-requires-clause-home c =
    let a = c.args.self.now.asked.asked in
    within_board (parts_of c.args.self.now.board.now).bounds c.args.self.now.to.at a.board.in_range (a.board.nodes_inside c.args.self.now.to.at a.to_node)

pub seat_cost-requires-clause-p : goal.seat_cost-requires-clause-p
seat_cost-requires-clause-p c = within_board (parts_of c.args.self.now.board.now).bounds c.args.p c.args.self.now.asked.asked.board.in_range c.requires
