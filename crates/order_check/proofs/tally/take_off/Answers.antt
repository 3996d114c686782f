use Rattle.std.proofs.Common.{◌-◌, ◌∙◌, arith, refl, rules, to_z, of_z}
use Rattle.std.specs.Int.{w128}
use Rattle.std.proofs.lemmas.Int.{to_z-of_z}
use Rattle.order_check.specs.declared.slot.Sums.{Sums}
use Rattle.order_check.proofs.Closing.{slots_few}
use Rattle.order_check.proofs.Tallies.{tally_small, picked_decided, taken_off}
use Rattle.order_check.proofs.tally.take_off.Goals as goal

pub count-removed-requires-clause-terms : goal.count-removed-requires-clause-terms
count-removed-requires-clause-terms c = c.requires.picked.1.fits

pub count-removed-requires-clause-few : goal.count-removed-requires-clause-few
count-removed-requires-clause-few c = c.requires.picked.1.few

pub count-removed-requires-clause-few_slots : goal.count-removed-requires-clause-few_slots
count-removed-requires-clause-few_slots c = omega (arith, c.requires.table, slots_few c.args.asked.now c.requires.asked)

pub count-removed-requires-clause-small : goal.count-removed-requires-clause-small
count-removed-requires-clause-small c = λ k x below.
    omega (arith, tally_small c.args.asked.now c.args.prefix.now.placed c.args.sums c.args.costs.now c.requires.asked c.requires.tally k x below)

pub overflow_sub-result : goal.overflow_sub-result
overflow_sub-result c =
    omega (arith, c.count-removed.ensures.decided, c.requires.tally.decided, picked_decided c.args.asked.now c.args.some.now c.args.prefix.now.placed c.requires.picked)

pub returns : goal.returns
returns c =
    let left : Sums = record { decided = c.args.sums.decided - c.count-removed.result.decided; least = to_z w128 (of_z w128 c.count-removed.result.least) } in
    taken_off c.args.some.now c.args.asked.now c.args.prefix.now.placed c.args.sums c.count-removed.result left c.args.costs.now c.count-removed.new.costs
    c.requires.picked c.requires.tally c.count-removed.auto.costs c.count-removed.ensures.decided c.count-removed.ensures.slots refl
    (to_z-of_z w128 c.count-removed.result.least (search rules) ∙ c.count-removed.ensures.least)
