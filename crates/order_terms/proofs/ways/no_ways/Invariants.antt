use Rattle.std.proofs.Common.{◌≡◌, [], replicate}
use Rattle.order_terms.specs.WaysByPlace.{way_lists}
use Rattle.order_terms.proofs.ways.no_ways.Given as goal

abbrev pub invariant-loop : goal.invariant-loop
invariant-loop l = way_lists l.lists.items ≡ replicate l.counter []
