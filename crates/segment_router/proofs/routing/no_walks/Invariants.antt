use Rattle.std.proofs.Common.{◌≡◌, replicate, None}
use Rattle.segment_router.proofs.routing.no_walks.Given as goal

abbrev pub invariant-loop : goal.invariant-loop
invariant-loop l = l.walks.items ≡ replicate l.counter None
