use Rattle.std.proofs.Common.{◌≡◌, ◌∙◌, ap}
use Rattle.std.specs.Prelude.{◌+ℤ◌}
use Rattle.order_check.specs.declared.slot.PartTerm.{PartTerm}
use Rattle.order_check.specs.declared.slot.Charges.{Charges}
use Rattle.order_check.specs.Slots.{cost_at, charge_on}
use Rattle.order_check.specs.Charges.{price_charges}
use Rattle.order_check.specs.Counting.{shifted}
use Rattle.order_check.proofs.SignedSums.{read_small}
use Rattle.order_check.proofs.Pricing.{price_small}
use Rattle.order_check.proofs.term_prices.add_price.Goals as goal

pub add_both-requires-clause-here : goal.add_both-requires-clause-here
add_both-requires-clause-here c =
    let t : PartTerm = c.args.t in
    let is : c.price_charges.result ≡ price_charges t.term t.here t.there c.args.price =
    c.price_charges.ensures ∙ ap (price_charges t.term t.here t.there) (read_small c.args.price c.requires.price) in
    rw is (price_small t.term t.here t.there c.args.price c.requires.price).0

pub add_both-requires-clause-there : goal.add_both-requires-clause-there
add_both-requires-clause-there c =
    let t : PartTerm = c.args.t in
    let is : c.price_charges.result ≡ price_charges t.term t.here t.there c.args.price =
    c.price_charges.ensures ∙ ap (price_charges t.term t.here t.there) (read_small c.args.price c.requires.price) in
    rw is (price_small t.term t.here t.there c.args.price c.requires.price).1

pub returns-clause-slots : goal.returns-clause-slots
returns-clause-slots c = λ k below x.
    (let t : PartTerm = c.args.t in
    let is : c.price_charges.result ≡ price_charges t.term t.here t.there c.args.price =
    c.price_charges.ensures ∙ ap (price_charges t.term t.here t.there) (read_small c.args.price c.requires.price) in
    c.add_both.ensures.slots k below x ∙ ap (λ (d : Charges). shifted c.args.off (cost_at c.args.costs.now k x) (charge_on d.here k x +ℤ charge_on d.there k x)) is)
