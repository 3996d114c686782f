use Rattle.std.proofs.Common.{◌∙◌}
use Rattle.dual_orders.proofs.Turning.{minimum_goes_on, minimum_ends}
use Rattle.dual_orders.proofs.local_search.descend.Goals as goal

pub loop-preserved : goal.loop-preserved
loop-preserved c = record {
  orders =
      minimum_goes_on c.args.part.now.problem.now c.loop.orders c.take_turn.new.orders c.take_turn.ensures.orders
      (c.take_turn.ensures.less c.loop-test.true) ∙ c.loop.invariant.orders;
  are = c.take_turn.ensures.are;
  room = c.take_turn.ensures.room;
}

pub returns-clause-orders : goal.returns-clause-orders
returns-clause-orders c =
    minimum_ends c.args.part.now.problem.now c.loop.orders c.take_turn.new.orders c.take_turn.ensures.orders (c.take_turn.ensures.same c.loop-test.false) ∙ c.loop.invariant.orders
