use Rattle.std.proofs.Common.{◌≡◌, sym, subst, true}
use Rattle.octi_grid.specs.declared.point.GridPoint.{GridPoint}
use Rattle.grid_board.specs.declared.bounds.Bounds.{Bounds}
use Rattle.grid_board.specs.Boards.{contains, doubled_bounds}
use Rattle.grid_board.proofs.Ways.{can_step, doubled_inside}
use Rattle.grid_board.proofs.taking.flag_point.Goals as goal

pub doubled-requires : goal.doubled-requires
doubled-requires c = can_step c.args.bounds c.args.at c.requires.bounds c.requires.inside

pub cell_of-requires-clause-inside : goal.cell_of-requires-clause-inside
cell_of-requires-clause-inside c =
    subst (λ (b : Bounds). contains b c.doubled.result ≡ true) (sym c.doubled-frame.ensures.value)
    (subst (λ (p : GridPoint). contains (doubled_bounds c.args.bounds) p ≡ true) (sym c.doubled.ensures) (doubled_inside c.args.bounds c.args.at c.requires.inside))
