use Rattle.walk_search.proofs.LeastReach.{reach_walk}
use Rattle.walk_search.proofs.laws.no_walk_costs_less_than_reach.Goals as goal

pub returns : goal.returns
returns c = λ w. reach_walk w.start w.steps
