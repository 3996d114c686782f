use Rattle.std.proofs.Common.{sym, ◌∙◌, not, ◌&&◌, ◌||◌}
use Rattle.octi_grid.specs.Ways.{doubled, step_from}
use Rattle.grid_board.specs.Boards.{is_inside}
use Rattle.walk_search.specs.Asking.{question}
use Rattle.walk_search.specs.Moves.{is_passable}
use Rattle.walk_search.specs.Enclosed.{leaves_start}
use Rattle.walk_search.proofs.Enclosing.{not_leading}
use Rattle.walk_search.proofs.asked.Asked.leads_on.Goals as goal

pub returns-then-not-is_open_from : goal.returns-then-not-is_open_from
returns-then-not-is_open_from c =
    let q = question c.args.self.now in
    not_leading (leaves_start q c.args.p c.args.dir || is_passable q.board c.args.p) (is_inside q.board c.args.p)
    (is_inside q.board (step_from c.args.p c.args.dir) && not (q.board.is_taken (step_from (doubled c.args.p) c.args.dir)))
    (sym c.is_open_from.ensures ∙ c.if-not-is_open_from.true)
