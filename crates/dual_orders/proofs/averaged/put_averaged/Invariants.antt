use Rattle.std.proofs.Common.{[]}
use Rattle.order_model.specs.Costs.{AreOrders}
use Rattle.dual_rounds.specs.Ranges.{averages_of}
use Rattle.dual_rounds.proofs.Filling.{IsFilledTo}
use Rattle.dual_orders.specs.Solvers.{HasRoomFor}
use Rattle.dual_orders.proofs.Placing.{nearest_by}
use Rattle.dual_orders.proofs.averaged.put_averaged.Given as goal

abbrev pub invariant-loop-s : goal.invariant-loop-s
invariant-loop-s l =
    IsFilledTo (nearest_by l.part.problem.now l.settled (averages_of l.averages)) [] l.s l.initial.orders l.orders
    × AreOrders l.part.problem.now.segs l.orders × HasRoomFor l.part.problem.now l.solver
