use Rattle.std.proofs.Common.{arith, ◌-◌}
use Rattle.ordered_entries.proofs.OrderLemmas.{place_within, first_repeat_is}
use Rattle.ordered_entries.proofs.repeats.first_repeat.Goals as goal

pub tie-found-requires-clause-before : goal.tie-found-requires-clause-before
tie-found-requires-clause-before c = place_within c.args.entries.now c.args.order.now c.requires _ (omega arith)

pub tie-found-requires-clause-place : goal.tie-found-requires-clause-place
tie-found-requires-clause-place c = place_within c.args.entries.now c.args.order.now c.requires _ (omega arith)

pub returns : goal.returns
returns c =
    first_repeat_is c.args.entries.now c.args.order.now c.requires (c.loop-at.at - 1) c.loop-at.least
    (omega (arith, c.loop-at.auto.at, c.loop-at-test.false))
    (omega (arith, c.loop-at.auto.at, c.loop-at.invariant.upto))
    c.loop-at.invariant.least
