use Rattle.std.proofs.Common.{List, length, map, sym, ◌∙◌, ap}
use Rattle.map_base.specs.declared.ids.LineId.{LineId}
use Rattle.order_model.proofs.OrderLemmas.{length-orders}
use Rattle.dual_orders.proofs.Placing.{same_lengths}
use Rattle.dual_orders.proofs.local_search.meet.Goals as goal

pub cost_of-cost-requires : goal.cost_of-cost-requires
cost_of-cost-requires c = sym (length-orders c.args.part.now.problem.now.segs c.args.orders.now c.requires.orders)

pub copy_orders-requires : goal.copy_orders-requires
copy_orders-requires c =
    same_lengths c.args.part.now.problem.now.segs c.args.orders.now c.args.best.now.orders.items c.requires.orders
    c.requires.best.are
    ∙ ap (λ (os : List (List LineId)). map (λ o. length o) os) (sym c.as_mut_slice.ensures.value)
