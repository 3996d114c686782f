use Rattle.std.proofs.Common.{◌≡◌, ◌<◌, true, false, take}
use Rattle.std.specs.List.{fold}
use Rattle.order_model.specs.Costs.{cost_of, AreOrders}
use Rattle.dual_ascent.specs.OwnNumbers.{all_segments}
use Rattle.dual_ascent.specs.LocalSearch.{improved_on}
use Rattle.dual_orders.specs.Solvers.{HasRoomFor}
use Rattle.dual_orders.proofs.local_search.take_turn.Given as goal

abbrev pub invariant-loop-s : goal.invariant-loop-s
invariant-loop-s l = record {
  orders : l.orders ≡ fold (improved_on l.part.problem.now) l.initial.orders (take l.s (all_segments l.part.problem.now));
  are : AreOrders l.part.problem.now.segs l.orders;
  less : l.changed ≡ true → cost_of l.part.problem.now.terms l.orders < cost_of l.part.problem.now.terms l.initial.orders;
  same : l.changed ≡ false → l.orders ≡ l.initial.orders;
  room : HasRoomFor l.part.problem.now l.solver;
}
