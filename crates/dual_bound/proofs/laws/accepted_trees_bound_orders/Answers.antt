use Rattle.dual_bound.proofs.Sound.{accepted_bounds}
use Rattle.dual_bound.proofs.laws.accepted_trees_bound_orders.Goals as goal

pub returns : goal.returns
returns c = accepted_bounds
