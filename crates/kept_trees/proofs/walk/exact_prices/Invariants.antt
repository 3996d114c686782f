use Rattle.std.proofs.Common.{◌≡◌, map, take}
use Rattle.kept_trees.proofs.Listing.{exact_by}
use Rattle.kept_trees.proofs.walk.exact_prices.Given as goal

abbrev pub invariant-loop-term : goal.invariant-loop-term
invariant-loop-term l = l.prices.items ≡ map (exact_by l.orders) (take l.term-index l.problem.terms)
