use Rattle.std.proofs.Common.{arith}
use Rattle.grid_board.proofs.Within.{few_cells}
use Rattle.walk_search.proofs.spots.spots_of.Goals as goal

pub overflow_mul-result : goal.overflow_mul-result
overflow_mul-result c = omega (arith, few_cells c.args.bounds c.requires, c.cells.ensures.value)

pub returns-clause-within : goal.returns-clause-within
returns-clause-within c = omega (arith, few_cells c.args.bounds c.requires, c.cells.ensures.value)
