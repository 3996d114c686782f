use Rattle.line_calls.proofs.ListLemmas.{one_more_empty}
use Rattle.line_calls.proofs.lists.empty_lists.Goals as goal

pub loop-preserved : goal.loop-preserved
loop-preserved c =
    one_more_empty c.loop.lists.items c.push.new.self.items c.new.result c.loop.counter c.loop.invariant c.new.ensures.items c.in_ok-push.ensures.items
