use Rattle.std.proofs.Common.{◌∙◌, ap}
use Rattle.grid_board.specs.declared.bounds.Bounds.{Bounds}
use Rattle.grid_board.specs.Boards.{parts_of}
use Rattle.walk_search.specs.Spots.{spot_of}
use Rattle.walk_search.proofs.Numbered.{spots_on_board}
use Rattle.walk_search.proofs.asked.Asked.spot_of.Goals as goal

pub returns-clause-on_board : goal.returns-clause-on_board
returns-clause-on_board c =
    let b : Bounds = (parts_of c.args.self.now.board.now).bounds in
    spots_on_board b c.args.n c.args.self.now.asked.asked.board.in_range c.requires c.spot_of.result (c.spot_of.ensures ∙ ap (λ (x : Bounds). spot_of x c.args.n) c.bounds.ensures.value)
