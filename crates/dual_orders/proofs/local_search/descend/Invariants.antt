use Rattle.std.proofs.Common.{◌≡◌}
use Rattle.order_model.specs.Costs.{cost_of, AreOrders}
use Rattle.dual_ascent.specs.LocalSearch.{local_minimum}
use Rattle.dual_orders.specs.Solvers.{HasRoomFor}
use Rattle.dual_orders.proofs.local_search.descend.Given as goal

abbrev pub invariant-loop : goal.invariant-loop
invariant-loop l = record {
  orders : local_minimum l.part.problem.now l.orders ≡ local_minimum l.part.problem.now l.initial.orders;
  are : AreOrders l.part.problem.now.segs l.orders;
  room : HasRoomFor l.part.problem.now l.solver;
}

abbrev pub decreases-loop : goal.decreases-loop
decreases-loop l = cost_of l.part.problem.now.terms l.orders
