use Rattle.std.proofs.Common.{◌≡◌, ◌*◌, ◌≤◌, take}
use Rattle.std.specs.List.{sum_by}
use Rattle.order_model.specs.Costs.{term_cost}
use Rattle.order_model.proofs.costs.total_cost.Given as goal

abbrev pub invariant-loop-term : goal.invariant-loop-term
invariant-loop-term l = (l.total ≡ sum_by (term_cost l.orders) (take l.term-index l.terms)) × (l.total ≤ 256000 * l.term-index)
