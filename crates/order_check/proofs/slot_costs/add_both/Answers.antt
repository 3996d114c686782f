use Rattle.std.proofs.Common.{◌<◌, ◌≤◌, ◌∙◌, length, ap, arith}
use Rattle.std.specs.Prelude.{ℤ, ◌+ℤ◌, unsigned_abs}
use Rattle.order_check.specs.declared.slot.Charge.{Charge}
use Rattle.order_check.specs.Slots.{cost_at, charge_on}
use Rattle.order_check.specs.Counting.{shifted}
use Rattle.order_check.proofs.SignedSums.{abs_sum}
use Rattle.order_check.proofs.Charging.{small_charge_on}
use Rattle.order_check.proofs.Counting.{shifted_more, turned_on, turned_small}
use Rattle.order_check.proofs.slot_costs.add_both.Goals as goal

pub add-first-requires-clause-amount : goal.add-first-requires-clause-amount
add-first-requires-clause-amount c = rw c.turned-here.ensures (turned_small c.args.off c.args.added.here c.requires.here)

pub add-requires-clause-amount : goal.add-requires-clause-amount
add-requires-clause-amount c = rw c.turned-there.ensures (turned_small c.args.off c.args.added.there c.requires.there)

pub add-requires-clause-small : goal.add-requires-clause-small
add-requires-clause-small c = λ k x below.
    (let under : k < length c.args.costs.now = omega (arith, below, c.add-first.auto.costs) in
    let here : unsigned_abs c.turned-here.result.amount ≤ 256000 = rw c.turned-here.ensures (turned_small c.args.off c.args.added.here c.requires.here) in
    let sum = abs_sum (cost_at c.args.costs.now k x) (charge_on c.turned-here.result k x) 1152921504606846976 256000 (c.requires.small k x under) (small_charge_on c.turned-here.result k x here) in
    rw (c.add-first.ensures.slots k under x) (omega (arith, sum)))

pub returns-clause-slots : goal.returns-clause-slots
returns-clause-slots c = λ k below x.
    (let under : k < length c.add-first.new.costs = omega (arith, below, c.add-first.auto.costs) in
    let a : ℤ = cost_at c.args.costs.now k x in
    let first = turned_on c.args.off c.args.added.here k x a (cost_at c.add-first.new.costs k x) (c.add-first.ensures.slots k below x ∙ ap (λ (d : Charge). a +ℤ charge_on d k x) c.turned-here.ensures) in
    let second = turned_on c.args.off c.args.added.there k x (cost_at c.add-first.new.costs k x) (cost_at c.add.new.costs k x)
    (c.add.ensures.slots k under x ∙ ap (λ (d : Charge). cost_at c.add-first.new.costs k x +ℤ charge_on d k x) c.turned-there.ensures) in
    shifted_more c.args.off a (charge_on c.args.added.here k x) (charge_on c.args.added.there k x) (cost_at c.add.new.costs k x)
    (second ∙ ap (λ v. shifted c.args.off v (charge_on c.args.added.there k x)) first))
