use Rattle.std.proofs.Common.{arith}
use Rattle.graph_maps.proofs.promises.a_bound_that_is_attained_is_least.Goals as goal

pub returns : goal.returns
returns c importance choices graph orders proved is same others are = omega (arith, is.bound others are, is.costs, same)
