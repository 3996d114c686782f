use Rattle.dual_bound.proofs.Sound.{unfailing_bounds}
use Rattle.dual_bound.proofs.laws.trees_without_fault_bound_all_orders.Goals as goal

pub returns : goal.returns
returns c = unfailing_bounds
