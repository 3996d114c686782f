use Rattle.std.proofs.Common.{sym, ◌∙◌, ap, subst, ◌≤◌}
use Rattle.grid_board.specs.Boards.{parts_of}
use Rattle.walk_search.specs.Asking.{question}
use Rattle.walk_search.specs.Seats.{seat_cost}
use Rattle.walk_search.proofs.Moving.{start_cheap}
use Rattle.grid_board.proofs.Ways.{within_board}
use Rattle.walk_search.proofs.asked.Asked.start_cost.Goals as goal

pub seat_cost-requires-clause-home : goal.seat_cost-requires-clause-home
seat_cost-requires-clause-home c =
    let a = c.args.self.now.asked.asked in
    within_board (parts_of c.args.self.now.board.now).bounds c.args.self.now.from.at a.board.in_range (a.board.nodes_inside c.args.self.now.from.at a.from_node)

pub seat_cost-requires-clause-p : goal.seat_cost-requires-clause-p
seat_cost-requires-clause-p c = within_board (parts_of c.args.self.now.board.now).bounds c.start.result c.args.self.now.asked.asked.board.in_range c.start.ensures.inside

pub returns-clause-within : goal.returns-clause-within
returns-clause-within c =
    subst (λ n. n ≤ 20) (sym (c.seat_cost.ensures ∙ ap (seat_cost c.args.self.now.from.at) c.start.ensures.value)) (start_cheap (question c.args.self.now) c.args.i c.requires)
