use Rattle.std.proofs.Common.{◌+◌, ◌<◌, ◌^◌, ◌∙◌, arith, refl, rules, to_z, of_z}
use Rattle.std.specs.Int.{w128}
use Rattle.std.proofs.lemmas.Int.{to_z-of_z}
use Rattle.order_check.specs.declared.slot.Sums.{Sums}
use Rattle.order_check.proofs.Closing.{slots_few}
use Rattle.order_check.proofs.Tallies.{without_small, without_decided, put_back}
use Rattle.order_check.proofs.tally.put_on.Goals as goal

pub count-added-requires-clause-terms : goal.count-added-requires-clause-terms
count-added-requires-clause-terms c = c.requires.picked.1.fits

pub count-added-requires-clause-few : goal.count-added-requires-clause-few
count-added-requires-clause-few c = c.requires.picked.1.few

pub count-added-requires-clause-few_slots : goal.count-added-requires-clause-few_slots
count-added-requires-clause-few_slots c = omega (arith, c.requires.table, slots_few c.args.asked.now c.requires.asked)

pub count-added-requires-clause-small : goal.count-added-requires-clause-small
count-added-requires-clause-small c = λ k x below.
    omega (arith, without_small c.args.some.now c.args.asked.now c.args.prefix.now.placed c.args.beside c.args.costs.now c.requires.asked c.requires.picked c.requires.tally k x below)

pub overflow_add-result : goal.overflow_add-result
overflow_add-result c =
    let most = without_decided c.args.some.now c.args.asked.now c.args.prefix.now.placed c.args.beside c.args.costs.now c.requires.asked c.requires.tally in
    let more = c.count-added.ensures.most in
    let sum : c.args.beside.decided + c.count-added.result.decided < 2 ^ 64 = omega (arith, most, more) in
    search rules

pub returns : goal.returns
returns c =
    let all : Sums = record { decided = c.args.beside.decided + c.count-added.result.decided; least = to_z w128 (of_z w128 c.count-added.result.least) } in
    put_back c.args.some.now c.args.asked.now c.args.prefix.now.placed c.args.beside c.count-added.result all c.args.costs.now c.count-added.new.costs
    c.requires.tally c.count-added.auto.costs c.count-added.ensures.decided c.count-added.ensures.slots refl
    (to_z-of_z w128 c.count-added.result.least (search rules) ∙ c.count-added.ensures.least)
