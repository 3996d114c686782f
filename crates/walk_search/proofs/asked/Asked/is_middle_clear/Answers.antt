use Rattle.std.proofs.Common.{◌≡◌, sym, ◌∙◌, ap, subst, true}
use Rattle.octi_grid.specs.declared.point.GridPoint.{GridPoint}
use Rattle.octi_grid.specs.Ways.{step_from}
use Rattle.grid_board.specs.declared.bounds.Bounds.{Bounds}
use Rattle.grid_board.specs.Boards.{contains, doubled_bounds, parts_of}
use Rattle.grid_board.proofs.Ways.{middle_inside}
use Rattle.walk_search.proofs.asked.Asked.is_middle_clear.Goals as goal

pub is_taken-requires : goal.is_taken-requires
is_taken-requires c =
    let b : Bounds = (parts_of c.args.self.now.board.now).bounds in
    subst (λ (p : GridPoint). contains (doubled_bounds b) p ≡ true) (sym (c.step-middle.ensures ∙ ap (λ (p : GridPoint). step_from p c.args.dir) c.doubled_within.ensures.value))
    (middle_inside b c.args.p c.args.dir c.requires.p c.requires.next)
