use Rattle.order_rules.proofs.lifting.lift.Goals as goal
use Rattle.order_rules.proofs.Lifts.{lifted_more, lifted_none}

pub loop-done-init : goal.loop-done-init
loop-done-init c = lifted_none c.args.rules.now c.into_vec-lists.result.items

pub loop-done-preserved : goal.loop-done-preserved
loop-done-preserved c =
    lifted_more c.args.rules.now c.into_vec-lists.result.items c.loop-done.lists.items c.in_ok-lists.lists.items c.loop-done.done c.index-rules-rules.result
    c.loop-done-test.true c.loop-done.invariant c.index-rules-rules.is c.in_ok-lists.ensures
