use Rattle.std.proofs.Common.{◌≡◌, ◌∙◌, true, false, set, sym, ap, arith, refl, rules, w64, to_z, of_z}
use Rattle.std.specs.Prelude.{◌+ℤ◌, ◌-ℤ◌}
use Rattle.std.specs.Int.{w128}
use Rattle.std.proofs.lemmas.Int.{ints, to_z-of_z}
use Rattle.order_check.specs.Slots.{cost_at}
use Rattle.order_check.proofs.Leasts.{least_bound, least_moved, charge_set, none_added}
use Rattle.order_check.proofs.slot_costs.add.Goals as goal

pub returns-then-charge-eq0-clause-slots : goal.returns-then-charge-eq0-clause-slots
returns-then-charge-eq0-clause-slots c = λ k below x.
    (let own : to_z w64 (of_z w64 c.args.charge.amount) ≡ c.args.charge.amount = to_z-of_z w64 c.args.charge.amount (search rules) in
    none_added c.args.charge k x (cost_at c.args.costs.now k x) (sym own ∙ ap (to_z w64) c.if-charge-eq0.true))

pub with_charge-after-requires-clause-lesser : goal.with_charge-after-requires-clause-lesser
with_charge-after-requires-clause-lesser c = c.requires.small c.args.charge.slot true (omega (arith, c.if-k-costs.false))

pub with_charge-after-requires-clause-greater : goal.with_charge-after-requires-clause-greater
with_charge-after-requires-clause-greater c = c.requires.small c.args.charge.slot false (omega (arith, c.if-k-costs.false))

pub without-rest-requires-clause-low : goal.without-rest-requires-clause-low
without-rest-requires-clause-low c =
    let within = least_bound c.args.costs.now c.args.least c.requires.few c.requires.small c.requires.least in
    let own : to_z w128 (of_z w128 c.args.least) ≡ c.args.least = to_z-of_z w128 c.args.least c.ranges.least in
    omega (arith, ints, own, within.low)

pub without-rest-requires-clause-high : goal.without-rest-requires-clause-high
without-rest-requires-clause-high c =
    let within = least_bound c.args.costs.now c.args.least c.requires.few c.requires.small c.requires.least in
    let own : to_z w128 (of_z w128 c.args.least) ≡ c.args.least = to_z-of_z w128 c.args.least c.ranges.least in
    omega (arith, ints, own, within.high)

pub with-requires-clause-low : goal.with-requires-clause-low
with-requires-clause-low c =
    let within = least_bound c.args.costs.now c.args.least c.requires.few c.requires.small c.requires.least in
    let own : to_z w128 (of_z w128 c.args.least) ≡ c.args.least = to_z-of_z w128 c.args.least c.ranges.least in
    let rest : to_z w128 (of_z w128 c.without-rest.result) ≡ c.without-rest.result = to_z-of_z w128 c.without-rest.result (search rules) in
    omega (arith, ints, own, rest, within.low, c.without-rest.ensures.low)

pub with-requires-clause-high : goal.with-requires-clause-high
with-requires-clause-high c =
    let within = least_bound c.args.costs.now c.args.least c.requires.few c.requires.small c.requires.least in
    let own : to_z w128 (of_z w128 c.args.least) ≡ c.args.least = to_z-of_z w128 c.args.least c.ranges.least in
    let rest : to_z w128 (of_z w128 c.without-rest.result) ≡ c.without-rest.result = to_z-of_z w128 c.without-rest.result (search rules) in
    omega (arith, ints, own, rest, within.high, c.without-rest.ensures.high)

pub returns-clause-slots : goal.returns-clause-slots
returns-clause-slots c = charge_set c.args.costs.now c.args.charge c.with_charge-after.result (omega (arith, c.if-k-costs.false)) c.with_charge-after.ensures

pub returns-clause-least : goal.returns-clause-least
returns-clause-least c =
    let own : to_z w128 (of_z w128 c.args.least) ≡ c.args.least = to_z-of_z w128 c.args.least c.ranges.least in
    let rest : to_z w128 (of_z w128 c.without-rest.result) ≡ c.without-rest.result = to_z-of_z w128 c.without-rest.result (search rules) in
    let was : to_z w64 (of_z w64 c.least_of-was.result) ≡ c.least_of-was.result = to_z-of_z w64 c.least_of-was.result (search rules) in
    let will : to_z w64 (of_z w64 c.least_of-will.result) ≡ c.least_of-will.result = to_z-of_z w64 c.least_of-will.result (search rules) in
    let moved : c.with.result ≡ (c.args.least -ℤ c.least_of-was.result) +ℤ c.least_of-will.result = omega (arith, ints, own, rest, was, will, c.without-rest.ensures.sum, c.with.ensures) in
    to_z-of_z w128 c.with.result (search rules)
    ∙ least_moved c.args.costs.now (set c.args.costs.now c.args.charge.slot c.with_charge-after.result) c.args.charge.slot c.with_charge-after.result c.args.least c.least_of-was.result c.least_of-will.result
    c.with.result (omega (arith, c.if-k-costs.false)) refl c.requires.least c.least_of-was.ensures c.least_of-will.ensures moved
