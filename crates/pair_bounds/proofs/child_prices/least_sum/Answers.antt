use Rattle.std.proofs.Common.{◌≡◌, ◌∙◌, arith, rules, ◌+ℤ◌, to_z, of_z}
use Rattle.std.specs.Int.{w128}
use Rattle.std.proofs.lemmas.Int.{ints, to_z-of_z}
use Rattle.pair_bounds.proofs.PricedSlots.{least_total, least_total_low, least_total_high}
use Rattle.pair_bounds.proofs.child_prices.least_sum.Goals as goal

pub loop-slot-preserved : goal.loop-slot-preserved
loop-slot-preserved c =
    let next : to_z w128 (of_z w128 c.with_cost-total.result) ≡ to_z w128 c.loop-slot.total-bits +ℤ c.least.result =
    to_z-of_z w128 c.with_cost-total.result (search rules) ∙ omega (arith, ints, c.with_cost-total.ensures, c.loop-slot.total-is) in
    record {
      total = least_total c.args.slots.now c.loop-slot.slot-index _ (to_z w128 c.loop-slot.total-bits) c.least.result (to_z w128 (of_z w128 c.with_cost-total.result)) (omega arith) c.loop-slot.invariant.total c.least.ensures next;
      low = least_total_low c.args.slots.now c.loop-slot.slot-index _ (to_z w128 c.loop-slot.total-bits) c.least.result (to_z w128 (of_z w128 c.with_cost-total.result)) (omega arith) c.requires c.loop-slot.invariant.low c.least.ensures next;
      high = least_total_high c.args.slots.now c.loop-slot.slot-index _ (to_z w128 c.loop-slot.total-bits) c.least.result (to_z w128 (of_z w128 c.with_cost-total.result)) (omega arith) c.requires c.loop-slot.invariant.high c.least.ensures next;
    }
