use Rattle.std.proofs.Common.{◌≡◌, length}
use Rattle.order_model.specs.Problems.{lines_on}
use Rattle.least_orders.specs.OrderCosts.{summed_costs}
use Rattle.dual_shares.specs.CostRows.{HasRoom, Tell, AreSmallCosts}
use Rattle.dual_ascent.specs.SegmentCosts.{beside_costs}
use Rattle.dual_orders.proofs.Adding.{terms_so_far}
use Rattle.dual_orders.proofs.beside.put_costs_beside.Given as goal

abbrev pub invariant-loop-k : goal.invariant-loop-k
invariant-loop-k l =
    HasRoom l.rows × (l.rows.count ≡ length (lines_on l.part.problem.now.segs (record { 0 = l.s })))
    × Tell (lines_on l.part.problem.now.segs (record { 0 = l.s }))
    (summed_costs (beside_costs l.orders (record { 0 = l.s })) (terms_so_far l.orders (record { 0 = l.s }) l.part.problem.now.terms l.k-index l.k-items)) l.rows
    × AreSmallCosts l.k-index l.rows
