use Rattle.std.proofs.Common.{◌≡◌, true, cond, sym, ◌∙◌, ap, arith}
use Rattle.order_model.specs.declared.problem.ProblemParts.{ProblemParts}
use Rattle.dual_orders.proofs.Turning.{turn_more, turn_whole, turn_costs}
use Rattle.dual_orders.proofs.local_search.take_turn.Goals as goal
use Rattle.dual_orders.proofs.local_search.take_turn.Goals.{then-improve_on, else-improve_on}

pub loop-s-preserved : goal.loop-s-preserved
loop-s-preserved c =
    let p : ProblemParts = c.args.part.now.problem.now in
    let known = c.len-s-end.ensures in
    let inv = c.loop-s.invariant in
    let is : c.if-improve_on.changed ≡ cond c.improve_on.result true c.loop-s.changed =
    elim c.if-improve_on.branch [
      | then-improve_on w ↦ w.changed-is ∙ sym (ap (λ b. cond b true c.loop-s.changed) w.if-improve_on.true)
      | else-improve_on w ↦ w.changed-is ∙ sym (ap (λ b. cond b true c.loop-s.changed) w.if-improve_on.false)
    ] in
    let costs = turn_costs p c.args.orders.now c.loop-s.orders c.improve_on.new.orders c.loop-s.changed
    c.improve_on.result c.if-improve_on.changed inv.less inv.same c.improve_on.ensures.less c.improve_on.ensures.same
    is in
    record {
      orders = turn_more p c.args.orders.now c.loop-s.orders c.improve_on.new.orders c.loop-s.s
          (omega (arith, known, c.loop-s-test.true)) inv.orders c.improve_on.ensures.orders;
      are = c.improve_on.ensures.are;
      less = costs.0;
      same = costs.1;
      room = c.improve_on.ensures.room;
    }

pub returns-clause-orders : goal.returns-clause-orders
returns-clause-orders c =
    let known = c.len-s-end.ensures in
    c.loop-s.invariant.orders ∙ turn_whole c.args.part.now.problem.now c.args.orders.now c.loop-s.s (omega (arith, known, c.loop-s-test.false))
