use Rattle.std.proofs.Common.{◌≡◌, take}
use Rattle.dual_rounds.proofs.line_order.orders_of.Given as goal

abbrev pub invariant-loop-lines : goal.invariant-loop-lines
invariant-loop-lines l = l.orders.items ≡ take l.lines-index l.lists
