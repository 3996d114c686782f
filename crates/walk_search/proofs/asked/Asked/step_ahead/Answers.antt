use Rattle.grid_board.specs.Boards.{parts_of}
use Rattle.grid_board.proofs.Ways.{can_step}
use Rattle.walk_search.proofs.asked.Asked.step_ahead.Goals as goal

pub step-before-requires : goal.step-before-requires
step-before-requires c = can_step (parts_of c.args.self.now.board.now).bounds c.args.p c.args.self.now.asked.asked.board.in_range c.requires.inside
