use Rattle.std.proofs.Common.{List, subst, sym, codes, [], ◌∷◌, ◌++◌, arith, ap, ◌∙◌}
use Rattle.std.proofs.lemmas.Result.{err_from_is_err_and}
use Rattle.map_base.specs.declared.ids.LineId.{LineId}
use Rattle.decimal_text.specs.Reading.{reading}
use Rattle.decimal_text.proofs.Stops.{line_stops}
use Rattle.cert_file.specs.Forms.{order_of, spoken_front}
use Rattle.cert_file.specs.Reading.{after, orders_due}
use Rattle.cert_file.proofs.Bodies.{AreOrdersSoFar, orders_begin, order_taken, order_stops, orders_end}
use Rattle.cert_file.proofs.body.orders_of.Goals as goal

pub loop-s-init : goal.loop-s-init
loop-s-init c = subst (λ (xs : List (List LineId)). AreOrdersSoFar c.args.segs 0 xs c.args.text.now c.args.text.now) (sym c.new-orders.ensures.items) (orders_begin c.args.segs c.args.text.now)

pub returns-in_err-order-clause-follows : goal.returns-in_err-order-clause-follows
returns-in_err-order-clause-follows c =
    let p = err_from_is_err_and c.from_residual.result c.from_residual.ensures.1 in
    rw (p.1, p.2) (line_stops c.in_err-order.field-0.0 c.loop-s.rest.now (spoken_front (codes "order") (order_of c.loop-s.s) c.loop-s.rest.now) (reading after (orders_due 0 c.args.segs) c.args.text.now) c.in_err-order.ensures
    (order_stops c.args.segs c.loop-s.s c.loop-s.orders.items c.args.text.now c.loop-s.rest.now c.loop-s-test.true c.loop-s.invariant))

pub loop-s-preserved : goal.loop-s-preserved
loop-s-preserved c =
    order_taken c.args.segs c.loop-s.s c.loop-s.orders.items c.push.new.self.items c.args.text.now c.loop-s.rest.now c.in_ok-order.behind.now c.in_ok-order.order.items c.loop-s-test.true c.loop-s.invariant c.in_ok-order.ensures (c.in_ok-push.ensures.items ∙ ap (λ o. c.loop-s.orders.items ++ o ∷ []) c.of.ensures)

pub returns-clause-follows : goal.returns-clause-follows
returns-clause-follows c = orders_end c.args.segs c.loop-s.s c.loop-s.orders.items c.args.text.now c.loop-s.rest.now (omega arith) c.loop-s.invariant
