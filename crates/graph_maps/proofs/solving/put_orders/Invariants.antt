use Rattle.std.proofs.Common.{◌≡◌, length, take, drop}
use Rattle.order_search.specs.Finding.{with_lists}
use Rattle.graph_maps.proofs.solving.put_orders.Given as goal

-- the segments from the place on have their orders, and the lists before it are left
abbrev pub invariant-loop-i : goal.invariant-loop-i
invariant-loop-i l = record {
  put : l.orders.items ≡ with_lists (drop l.i l.part) (drop l.i l.fn.lists.items) l.fn.orders.items;
  left : l.lists.items ≡ take l.i l.fn.lists.items;
  each : length l.orders.items ≡ length l.fn.orders.items;
}
