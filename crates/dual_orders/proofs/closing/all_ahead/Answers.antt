use Rattle.std.proofs.Common.{◌-◌, sym, ◌∙◌}
use Rattle.dual_orders.proofs.Chains.{step_more, steps_rest}
use Rattle.dual_orders.proofs.closing.all_ahead.Goals as goal

pub returns-then-more-set : goal.returns-then-more-set
returns-then-more-set c = sym
    (steps_rest c.args.direct.now c.args.count c.args.j (c.args.most - c.loop.counter) c.loop.set
    (sym c.stepped-more.ensures ∙ c.if-more-set.true)) ∙ c.loop.invariant

pub loop-preserved : goal.loop-preserved
loop-preserved c = step_more c.args.direct.now c.args.count c.args.j c.loop.set c.loop.counter c.args.most
    c.stepped-more.result c.loop-test.true c.stepped-more.ensures ∙ c.loop.invariant
