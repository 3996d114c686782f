use Rattle.std.proofs.Common.{◌≡◌, take}
use Rattle.graph_maps.proofs.solving.number_orders.Given as goal

-- the orders so far
abbrev pub invariant-loop-lines : goal.invariant-loop-lines
invariant-loop-lines l = l.orders.items ≡ take l.lines-index l.segs
