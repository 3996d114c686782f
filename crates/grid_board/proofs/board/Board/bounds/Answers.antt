use Rattle.std.proofs.Common.{sym, ◌∙◌, ap}
use Rattle.grid_board.specs.Boards.{BoardFlags, parts_of}
use Rattle.grid_board.proofs.OnBoards.{kept_bounds, shown_bounds}
use Rattle.grid_board.proofs.board.Board.bounds.Goals as goal

pub returns-clause-value : goal.returns-clause-value
returns-clause-value c =
    let b : BoardFlags = record { bounds = c.self.inside.bounds; nodes = c.self.inside.nodes.items; taken = c.self.inside.taken } in
    sym (shown_bounds b) ∙ ap (λ (x : BoardFlags). (parts_of x).bounds) c.self.view_is

pub returns-clause-in_range : goal.returns-clause-in_range
returns-clause-in_range c =
    let b : BoardFlags = record { bounds = c.self.inside.bounds; nodes = c.self.inside.nodes.items; taken = c.self.inside.taken } in
    kept_bounds b c.self.invariant
