use Rattle.std.proofs.Common.{◌≡◌, map, take}
use Rattle.order_model.specs.Problems.{lines_on}
use Rattle.order_search.proofs.best.placed_lists.Given as goal

abbrev pub invariant-loop-s : goal.invariant-loop-s
invariant-loop-s l = l.lists.items ≡ map (λ s. lines_on l.search.bounds.placed s) (take l.s-index l.s-items)
