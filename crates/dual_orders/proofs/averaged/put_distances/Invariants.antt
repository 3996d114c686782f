use Rattle.std.proofs.Common.{◌≡◌, ◌*◌, take, length}
use Rattle.least_orders.specs.OrderCosts.{summed_costs}
use Rattle.dual_shares.specs.CostRows.{HasRoom, Tell, AreSmallCosts}
use Rattle.dual_ascent.specs.SegmentCosts.{distance_costs}
use Rattle.dual_orders.proofs.averaged.put_distances.Given as goal

abbrev pub invariant-loop-average : goal.invariant-loop-average
invariant-loop-average l =
    HasRoom l.rows × (l.rows.count ≡ length l.lines) × Tell l.lines (summed_costs distance_costs (take l.average-index l.averages)) l.rows × AreSmallCosts (3 * l.average-index) l.rows
