use Rattle.std.proofs.Common.{arith}
use Rattle.grid_board.proofs.Within.{few_cells}
use Rattle.walk_search.proofs.asked.Asked.place_of.Goals as goal

pub returns-clause-few : goal.returns-clause-few
returns-clause-few c = omega (arith, few_cells c.bounds.result c.bounds.ensures.in_range, c.number_of_place.ensures.within)
