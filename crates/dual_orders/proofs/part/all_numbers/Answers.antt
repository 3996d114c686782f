use Rattle.std.proofs.Common.{length, ◌∙◌, ap, arith}
use Rattle.dual_orders.proofs.OwnTables.{pushed_number, all_numbers_pushed}
use Rattle.dual_orders.proofs.part.all_numbers.Goals as goal

pub loop-k-preserved : goal.loop-k-preserved
loop-k-preserved c =
    let same = ap length c.terms-count.ensures.list in
    c.in_ok-push.ensures.items ∙ pushed_number c.args.problem.now c.loop-k.k c.loop-k.numbers.items c.loop-k.invariant
    (omega (arith, same, c.loop-k-test.true))

pub returns : goal.returns
returns c =
    let same = ap length c.terms-count.ensures.list in
    all_numbers_pushed c.args.problem.now c.loop-k.k c.loop-k.numbers.items c.loop-k.invariant
    (omega (arith, same, c.loop-k-test.false))
