use Rattle.std.proofs.Common.{◌≡◌, sym, ◌∙◌, ap, subst, true}
use Rattle.octi_grid.specs.declared.point.GridPoint.{GridPoint}
use Rattle.octi_grid.specs.Ways.{CanStep, step_from}
use Rattle.grid_board.specs.declared.bounds.Bounds.{Bounds}
use Rattle.grid_board.specs.Boards.{contains, doubled_bounds}
use Rattle.grid_board.proofs.Ways.{can_step, doubled_can_step, middle_inside}
use Rattle.grid_board.proofs.taking.flag_step.Goals as goal

pub doubled-requires : goal.doubled-requires
doubled-requires c = can_step c.args.bounds c.args.start c.requires.bounds c.requires.start

pub step-middle-requires : goal.step-middle-requires
step-middle-requires c = subst (λ (p : GridPoint). CanStep p) (sym c.doubled.ensures) (doubled_can_step c.args.bounds c.args.start c.requires.bounds c.requires.start)

pub cell_of-requires-clause-inside : goal.cell_of-requires-clause-inside
cell_of-requires-clause-inside c =
    subst (λ (b : Bounds). contains b c.step-middle.result ≡ true) (sym c.doubled-frame.ensures.value)
    (subst (λ (p : GridPoint). contains (doubled_bounds c.args.bounds) p ≡ true) (sym (c.step-middle.ensures ∙ ap (λ (p : GridPoint). step_from p c.args.dir) c.doubled.ensures))
    (middle_inside c.args.bounds c.args.start c.args.dir c.requires.start c.requires.end))

pub step-end-requires : goal.step-end-requires
step-end-requires c = can_step c.args.bounds c.args.start c.requires.bounds c.requires.start
