use Rattle.std.proofs.Common.{◌≡◌, ◌*◌, ◌≤◌, map, take, set, sum_by}
use Rattle.order_model.specs.Costs.{term_cost}
use Rattle.dual_orders.specs.OwnTerms.{term_at}
use Rattle.dual_orders.proofs.segment_costs.cost_with.Given as goal

abbrev pub invariant-loop-k : goal.invariant-loop-k
invariant-loop-k l = (l.total ≡ sum_by (term_cost (set l.orders l.s l.order)) (map (term_at l.part.problem.now.terms) (take l.k-index l.k-items))) × (l.total ≤ 256000 * l.k-index)
