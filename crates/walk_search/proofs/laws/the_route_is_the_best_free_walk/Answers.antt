use Rattle.std.proofs.lemmas.Bool.{false_from_ne_true}
use Rattle.walk_search.specs.Routes.{is_free}
use Rattle.walk_search.proofs.Best.{no_route, route_best, route_free}
use Rattle.walk_search.proofs.laws.the_route_is_the_best_free_walk.Goals as goal

pub returns-clause-free : goal.returns-clause-free
returns-clause-free c = λ q r e. route_free q r e

pub returns-clause-best : goal.returns-clause-best
returns-clause-best c = λ q h r w e free. route_best q h r w e free

pub returns-clause-none : goal.returns-clause-none
returns-clause-none c = λ q h w e. false_from_ne_true (is_free q.board q.from q.to w) (λ free. no_route q h w e free)
