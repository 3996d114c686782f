use Rattle.std.proofs.Common.{◌≡◌, take}
use Rattle.order_search.specs.ByItself.{number_from, prices_by}
use Rattle.kept_trees.proofs.tree_numbers.renumbered_prices.Given as goal

-- the prices so far have their numbers
abbrev pub invariant-loop-price : goal.invariant-loop-price
invariant-loop-price l = l.changed.items ≡ prices_by (number_from l.numbers) (take l.price-index l.list)
