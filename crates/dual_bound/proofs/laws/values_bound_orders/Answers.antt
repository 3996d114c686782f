use Rattle.dual_bound.proofs.Sound.{value_bounds_orders}
use Rattle.dual_bound.proofs.laws.values_bound_orders.Goals as goal

pub returns : goal.returns
returns c = value_bounds_orders
