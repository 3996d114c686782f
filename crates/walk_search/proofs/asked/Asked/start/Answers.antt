use Rattle.std.proofs.Common.{◌∙◌, ap, get_or}
use Rattle.grid_board.specs.Boards.{parts_of}
use Rattle.walk_search.proofs.SeatFacts.{seat_is_inside}
use Rattle.walk_search.proofs.asked.Asked.start.Goals as goal

pub returns-clause-inside : goal.returns-clause-inside
returns-clause-inside c =
    let a = c.args.self.now.asked in
    seat_is_inside (parts_of c.args.self.now.board.now) c.args.self.now.from c.args.self.now.starts.items c.args.i c.index.result.now (a.asked.board.nodes_inside c.args.self.now.from.at a.asked.from_node) a.starts_are c.requires
    (c.index.ensures ∙ ap (λ n. get_or c.args.self.now.starts.items n c.index.result.now) c.from.ensures)
