use Rattle.dual_bound.proofs.Sound.{nothing_fails}
use Rattle.dual_bound.proofs.laws.nothing_fails_where_accepted.Goals as goal

pub returns : goal.returns
returns c = nothing_fails
