use Rattle.std.proofs.Common.{◌≡◌, ◌∙◌, ap, arith}
use Rattle.std.specs.Prelude.{slice_set}
use Rattle.order_model.specs.declared.problem.ProblemParts.{ProblemParts}
use Rattle.order_model.proofs.OrderLemmas.{length-orders}
use Rattle.dual_ascent.specs.DualSteps.{answer_on}
use Rattle.dual_ascent.proofs.Meeting.{answers_orders}
use Rattle.dual_ascent.proofs.OwnParts.{seg_number}
use Rattle.dual_orders.specs.SettledPairs.{pairs_of}
use Rattle.dual_orders.proofs.Placing.{placed_length}
use Rattle.dual_orders.proofs.Telling.{answered}
use Rattle.dual_orders.proofs.answers.put_answer.Goals as goal

pub set_order-requires-clause-known : goal.set_order-requires-clause-known
set_order-requires-clause-known c =
    let each = length-orders c.args.part.now.problem.now.segs c.args.orders.now c.requires.orders in
    omega (arith, each, c.requires.known)

pub set_order-requires-clause-same : goal.set_order-requires-clause-same
set_order-requires-clause-same c =
    let p : ProblemParts = c.args.part.now.problem.now in
    let is : c.order.result.now ≡ answer_on p (pairs_of c.args.settled.now) c.args.prices.now (seg_number c.args.s) =
    answered p c.args.settled.now (seg_number c.args.s) c.requires.part.fits.rising c.requires.part.fits.terms
    c.requires.settled c.args.prices.now c.lines-lines.result.now c.order.result.now c.put_shares.new.rows
    c.put_ahead.new.solver c.solve.new.self
    c.lines-lines.ensures c.put_ahead.ensures.rows c.put_shares.ensures.told c.put_ahead.ensures.told
    c.solve.ensures.found c.order.ensures in
    placed_length p.segs c.args.orders.now (answer_on p (pairs_of c.args.settled.now) c.args.prices.now) c.args.s
    c.order.result.now (answers_orders p (pairs_of c.args.settled.now) c.args.prices.now) c.requires.orders
    c.requires.known is

pub returns-clause-orders : goal.returns-clause-orders
returns-clause-orders c =
    let p : ProblemParts = c.args.part.now.problem.now in
    let is : c.order.result.now ≡ answer_on p (pairs_of c.args.settled.now) c.args.prices.now (seg_number c.args.s) =
    answered p c.args.settled.now (seg_number c.args.s) c.requires.part.fits.rising c.requires.part.fits.terms
    c.requires.settled c.args.prices.now c.lines-lines.result.now c.order.result.now c.put_shares.new.rows
    c.put_ahead.new.solver c.solve.new.self
    c.lines-lines.ensures c.put_ahead.ensures.rows c.put_shares.ensures.told c.put_ahead.ensures.told
    c.solve.ensures.found c.order.ensures in
    c.set_order.ensures ∙ ap (slice_set c.args.orders.now c.args.s) is
