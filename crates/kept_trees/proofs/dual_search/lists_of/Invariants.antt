use Rattle.std.proofs.Common.{◌≡◌, take}
use Rattle.kept_trees.proofs.dual_search.lists_of.Given as goal

abbrev pub invariant-loop-order : goal.invariant-loop-order
invariant-loop-order l = l.lists.items ≡ take l.order-index l.fn.orders.items
