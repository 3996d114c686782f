use Rattle.std.proofs.Common.{◌≡◌, drop}
use Rattle.order_values.specs.PriceLists.{price_at}
use Rattle.prefix_bounds.proofs.allowed.price_of.Given as goal

abbrev pub invariant-loop-entry : goal.invariant-loop-entry
invariant-loop-entry l = price_at l.list l.number ≡ price_at (drop l.entry-index l.list) l.number
