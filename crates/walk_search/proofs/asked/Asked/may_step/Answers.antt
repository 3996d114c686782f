use Rattle.grid_board.specs.Boards.{parts_of}
use Rattle.grid_board.proofs.Ways.{can_step}
use Rattle.walk_search.proofs.asked.Asked.may_step.Goals as goal

pub is_open-requires : goal.is_open-requires
is_open-requires c = can_step (parts_of c.args.self.now.board.now).bounds c.args.spot.at c.args.self.now.asked.asked.board.in_range c.requires
