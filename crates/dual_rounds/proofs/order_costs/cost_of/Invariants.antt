use Rattle.std.proofs.Common.{◌≡◌, ◌*◌, ◌≤◌, take}
use Rattle.order_model.specs.Costs.{cost_of}
use Rattle.dual_rounds.proofs.order_costs.cost_of.Given as goal

abbrev pub invariant-loop-term : goal.invariant-loop-term
invariant-loop-term l = (l.total ≡ cost_of (take l.term-index l.problem.terms) l.orders) × (l.total ≤ 256000 * l.term-index)
