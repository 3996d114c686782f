use Rattle.std.proofs.Common.{◌+◌, ◌<◌, ◌^◌, arith, rules}
use Rattle.order_check.proofs.Verdicts.{target_within}
use Rattle.order_check.proofs.total.target_sum.Goals as goal

pub overflow_add-sum : goal.overflow_add-sum
overflow_add-sum c =
    let within = target_within c.args.parts.now c.loop-part.part-index c.part-item.result c.loop-part-test.true c.part-item.is in
    let below : c.loop-part.sum + c.part-item.result.target < 2 ^ 64 = omega (arith, c.loop-part.invariant, within, c.requires) in
    search rules
