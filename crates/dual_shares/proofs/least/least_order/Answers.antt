use Rattle.std.proofs.Common.{◌∙◌, sym, ap, arith, rules, w64, FitsSigned, Some}
use Rattle.std.proofs.lemmas.Int.{to_z-of_z}
use Rattle.least_orders.proofs.Renaming.{least_cost_by_rows}
use Rattle.subset_program.specs.PlainRows.{plain_rows}
use Rattle.dual_shares.proofs.Writing.{places_known, none_written, order_written}
use Rattle.dual_shares.proofs.least.least_order.Goals as goal

pub returns-in_err-cost-clause-cost : goal.returns-in_err-cost-clause-cost
returns-in_err-cost-clause-cost c = λ costs settled tell.
    c.from_residual.ensures
    ∙ (sym (c.in_err-cost.was) ∙ (c.least_order.ensures.cost ∙ sym (least_cost_by_rows c.args.lines.now c.requires.rising (plain_rows c.args.rows.now) costs settled tell)))

pub returns-in_err-cost-clause-order : goal.returns-in_err-cost-clause-order
returns-in_err-cost-clause-order c = λ costs settled tell.
    none_written (plain_rows c.args.rows.now) c.args.lines.now c.requires.rising costs settled tell c.args.order.now (sym (c.in_err-cost.was) ∙ c.least_order.ensures.cost)

pub take_places-requires-clause-known : goal.take_places-requires-clause-known
take_places-requires-clause-known c = λ k d below.
    (let known =
    places_known (plain_rows c.args.rows.now) c.least_order.new.order c.in_ok-cost.cost (sym (c.in_ok-cost.was) ∙ c.least_order.ensures.cost) c.least_order.ensures.order k d below in
    omega (arith, known, c.requires.count))

pub returns-clause-cost : goal.returns-clause-cost
returns-clause-cost c = λ costs settled tell.
    (let fits : FitsSigned w64 c.in_ok-cost.cost = search rules in
    ap Some (to_z-of_z w64 c.in_ok-cost.cost fits)
    ∙ (sym (c.in_ok-cost.was) ∙ (c.least_order.ensures.cost ∙ sym (least_cost_by_rows c.args.lines.now c.requires.rising (plain_rows c.args.rows.now) costs settled tell))))

pub returns-clause-order : goal.returns-clause-order
returns-clause-order c = λ costs settled tell.
    order_written (plain_rows c.args.rows.now) c.args.lines.now c.requires.rising costs settled tell c.least_order.new.order c.in_ok-cost.cost c.args.order.now c.take_places.new.order
    (sym (c.in_ok-cost.was) ∙ c.least_order.ensures.cost) c.least_order.ensures.order c.take_places.ensures
