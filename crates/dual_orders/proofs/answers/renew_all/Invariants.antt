use Rattle.std.proofs.Common.{[]}
use Rattle.order_model.specs.Costs.{AreOrders}
use Rattle.dual_rounds.proofs.Filling.{IsFilledTo}
use Rattle.dual_orders.specs.Solvers.{HasRoomFor}
use Rattle.dual_orders.proofs.Placing.{answers_by}
use Rattle.dual_orders.proofs.answers.renew_all.Given as goal

abbrev pub invariant-loop-s : goal.invariant-loop-s
invariant-loop-s l =
    IsFilledTo (answers_by l.part.problem.now l.settled l.prices) [] l.s l.initial.orders l.orders × AreOrders l.part.problem.now.segs l.orders × HasRoomFor l.part.problem.now l.solver
