use Rattle.std.proofs.Common.{◌≡◌, sym, subst, true}
use Rattle.octi_grid.specs.declared.point.GridPoint.{GridPoint}
use Rattle.octi_grid.specs.Ways.{CanStep}
use Rattle.grid_board.specs.Boards.{contains, doubled_bounds}
use Rattle.grid_board.proofs.Ways.{can_step, doubled_can_step, doubled_inside}
use Rattle.walk_search.proofs.seats.doubled_within.Goals as goal

pub doubled-requires : goal.doubled-requires
doubled-requires c = can_step c.args.bounds c.args.p c.requires.bounds c.requires.inside

pub returns-clause-inside : goal.returns-clause-inside
returns-clause-inside c = subst (λ (p : GridPoint). contains (doubled_bounds c.args.bounds) p ≡ true) (sym c.doubled.ensures) (doubled_inside c.args.bounds c.args.p c.requires.inside)

pub returns-clause-can_step : goal.returns-clause-can_step
returns-clause-can_step c = subst (λ (p : GridPoint). CanStep p) (sym c.doubled.ensures) (doubled_can_step c.args.bounds c.args.p c.requires.bounds c.requires.inside)
