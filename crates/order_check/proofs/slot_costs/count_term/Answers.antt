use Rattle.std.proofs.Common.{◌∙◌, ap, arith}
use Rattle.std.specs.Prelude.{ℤ, pos, ◌+ℤ◌}
use Rattle.std.proofs.lemmas.Int.{ints}
use Rattle.order_check.specs.declared.slot.PartTerm.{PartTerm}
use Rattle.order_check.specs.declared.slot.Charges.{Charges}
use Rattle.order_check.specs.Slots.{cost_at, charge_on}
use Rattle.order_check.specs.Counting.{shifted}
use Rattle.order_check.proofs.Charging.{AreSmallCharges, small_charges}
use Rattle.order_check.proofs.slot_costs.count_term.Goals as goal

pub add_both-least-requires-clause-here : goal.add_both-least-requires-clause-here
add_both-least-requires-clause-here c =
    let t : PartTerm = c.args.t in
    let small : AreSmallCharges c.charges-added.result =
    rw c.charges-added.ensures (small_charges c.args.problem.now.segs c.args.prefix.now.placed t.term t.here t.there (pos 0) c.requires.term (omega (arith, ints))) in
    small.here

pub add_both-least-requires-clause-there : goal.add_both-least-requires-clause-there
add_both-least-requires-clause-there c =
    let t : PartTerm = c.args.t in
    let small : AreSmallCharges c.charges-added.result =
    rw c.charges-added.ensures (small_charges c.args.problem.now.segs c.args.prefix.now.placed t.term t.here t.there (pos 0) c.requires.term (omega (arith, ints))) in
    small.there

pub returns-clause-slots : goal.returns-clause-slots
returns-clause-slots c = λ k below x.
    (let a : ℤ = cost_at c.args.costs.now k x in
    c.add_both-least.ensures.slots k below x
    ∙ ap (λ (d : Charges). shifted c.args.off a (charge_on d.here k x +ℤ charge_on d.there k x)) c.charges-added.ensures)

pub returns-clause-most : goal.returns-clause-most
returns-clause-most c =
    let t : PartTerm = c.args.t in
    let small : AreSmallCharges c.charges-added.result =
    rw c.charges-added.ensures (small_charges c.args.problem.now.segs c.args.prefix.now.placed t.term t.here t.there (pos 0) c.requires.term (omega (arith, ints))) in
    small.decided
