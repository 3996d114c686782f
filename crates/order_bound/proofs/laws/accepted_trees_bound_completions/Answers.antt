use Rattle.order_bound.proofs.Accepted.{accepted_part_bounds}
use Rattle.order_bound.proofs.laws.accepted_trees_bound_completions.Goals as goal

pub returns : goal.returns
returns c = accepted_part_bounds
