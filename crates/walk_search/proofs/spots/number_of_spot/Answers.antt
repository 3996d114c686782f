use Rattle.std.proofs.Common.{arith}
use Rattle.grid_board.proofs.Within.{few_cells}
use Rattle.walk_search.proofs.spots.number_of_spot.Goals as goal

pub overflow_mul-result : goal.overflow_mul-result
overflow_mul-result c = omega (arith, few_cells c.args.bounds c.requires.bounds, c.number_of_place.ensures.within)

pub overflow_add-result : goal.overflow_add-result
overflow_add-result c = omega (arith, few_cells c.args.bounds c.requires.bounds, c.number_of_place.ensures.within)
