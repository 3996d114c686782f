use Rattle.order_bound.proofs.Failing.{accepted_exactly}
use Rattle.order_bound.proofs.laws.nothing_fails_where_accepted.Goals as goal

pub returns : goal.returns
returns c = accepted_exactly
