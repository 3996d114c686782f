use Rattle.std.proofs.Common.{◌==◌, ◌∙◌, ap, arith, count_by}
use Rattle.std.proofs.lemmas.List.{take_all}
use Rattle.dual_bound.specs.declared.settled.SettledPair.{SettledPair}
use Rattle.dual_orders.proofs.SettledStacks.{count_settled}
use Rattle.dual_orders.proofs.open_pairs.count_on.Goals as goal

pub returns : goal.returns
returns c =
    c.loop-pair.invariant.0
    ∙ (ap (count_by (λ (q : SettledPair). q.seg.0 == c.args.s.0))
    (take_all c.loop-pair.pair-index c.args.settled.now (omega (arith, c.loop-pair-test.false))) ∙ count_settled
    c.args.settled.now c.args.s)
