use Rattle.order_model.proofs.Grouping.{one_more_empty}
use Rattle.dual_shares.proofs.groups.empty_groups.Goals as goal

pub loop-preserved : goal.loop-preserved
loop-preserved c =
    one_more_empty c.loop.groups.items c.push.new.self.items c.new.result c.loop.counter c.loop.invariant c.new.ensures.items c.in_ok-push.ensures.items
