use Rattle.std.proofs.Common.{◌≡◌, ◌∙◌, get_or, ap, sym, subst, FitsSigned, w64, to_z, of_z, None, Some}
use Rattle.std.proofs.lemmas.Int.{to_z-of_z}
use Rattle.order_check.specs.declared.slot.PartTerm.{PartTerm}
use Rattle.order_check.specs.Slots.{cost_at}
use Rattle.order_check.specs.Charging.{no_part_term}
use Rattle.order_check.specs.Counting.{shifted}
use Rattle.order_check.specs.Prices.{IsPlaceOf}
use Rattle.order_check.specs.Pricing.{priced_by, priced_if}
use Rattle.order_check.proofs.Counting.{shifted_none}
use Rattle.order_check.proofs.Pricing.{term_nowhere, term_at}
use Rattle.order_check.proofs.term_prices.spread_price.Goals as goal

pub returns-in-None-clause-slots : goal.returns-in-None-clause-slots
returns-in-None-clause-slots c = λ k below x.
    (let none : IsPlaceOf c.args.numbers.now c.args.entry.0 None = subst (IsPlaceOf c.args.numbers.now c.args.entry.0) c.in-None.is c.place_of.ensures in
    shifted_none c.args.off (cost_at c.args.costs.now k x)
    ∙ ap (λ o. shifted c.args.off (cost_at c.args.costs.now k x) (priced_if k x o c.args.entry.1)) (sym (term_nowhere c.args.terms.now c.args.numbers.now c.args.entry.0 c.requires.numbers none)))

pub returns-in-Some-clause-slots : goal.returns-in-Some-clause-slots
returns-in-Some-clause-slots c = λ k below x.
    (let there : IsPlaceOf c.args.numbers.now c.args.entry.0 (Some c.in-Some.i) = subst (IsPlaceOf c.args.numbers.now c.args.entry.0) c.in-Some.is c.place_of.ensures in
    let t : PartTerm = get_or c.args.terms.now c.in-Some.i no_part_term in
    let fits : FitsSigned w64 c.price_of.result = record { sfits = c.price_of.type_inv } in
    let price : to_z w64 (of_z w64 c.price_of.result) ≡ c.args.entry.1 = to_z-of_z w64 c.price_of.result fits ∙ c.price_of.ensures in
    c.add_price.ensures.slots k below x
    ∙ ap (λ y. shifted c.args.off (cost_at c.args.costs.now k x) (priced_by k x t y)) price
    ∙ ap (λ o. shifted c.args.off (cost_at c.args.costs.now k x) (priced_if k x o c.args.entry.1)) (sym (term_at c.args.terms.now c.args.numbers.now c.args.entry.0 c.in-Some.i c.requires.numbers there)))
