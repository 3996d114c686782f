use Rattle.order_model.proofs.Grouping.{one_more_empty}
use Rattle.order_untangle.proofs.numbers.no_numbers.Goals as goal

pub loop-preserved : goal.loop-preserved
loop-preserved c =
    one_more_empty c.loop.on.items c.push.new.self.items c.new.result c.loop.counter c.loop.invariant c.new.ensures.items c.in_ok-push.ensures.items
