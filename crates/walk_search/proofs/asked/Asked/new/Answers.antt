use Rattle.grid_board.specs.Boards.{parts_of}
use Rattle.grid_board.proofs.Ways.{within_board}
use Rattle.walk_search.proofs.asked.Asked.new.Goals as goal

pub seats_of-requires : goal.seats_of-requires
seats_of-requires c = within_board (parts_of c.args.board.now).bounds c.args.from.at c.requires.board.in_range (c.requires.board.nodes_inside c.args.from.at c.requires.from_node)

pub seats_of-requires-2 : goal.seats_of-requires-2
seats_of-requires-2 c = within_board (parts_of c.args.board.now).bounds c.args.to.at c.requires.board.in_range (c.requires.board.nodes_inside c.args.to.at c.requires.to_node)
