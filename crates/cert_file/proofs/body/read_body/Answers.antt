use Rattle.std.proofs.Common.{codes, [], ◌∷◌, ◌++◌, ◌∙◌}
use Rattle.std.proofs.lemmas.Result.{err_from_is_err_and}
use Rattle.decimal_text.specs.Reading.{reading}
use Rattle.decimal_text.proofs.Stops.{line_stops, part_stops}
use Rattle.cert_file.specs.Forms.{cost_of, spoken_front}
use Rattle.cert_file.specs.Reading.{Cost, after, importance_due, walks_due, orders_due, rest_due}
use Rattle.cert_file.proofs.Heads.{body_begins, walks_left, orders_left, cost_left, cost_stops, cost_goes_on, body_read}
use Rattle.cert_file.proofs.body.read_body.Goals as goal

pub returns-in_err-importance-clause-follows : goal.returns-in_err-importance-clause-follows
returns-in_err-importance-clause-follows c =
    let p = err_from_is_err_and c.from_residual.result c.from_residual.ensures.1 in
    rw (p.1, p.2) (part_stops c.in_err-importance.field-0.0 (reading after (importance_due c.args.version) c.args.text.now) (reading after (rest_due c.args.version c.args.segs) c.args.text.now)
    (reading after (walks_due 0 c.args.segs ++ (orders_due 0 c.args.segs ++ (Cost ∷ [])))) c.in_err-importance.ensures.follows (body_begins c.args.version c.args.segs c.args.text.now))

pub returns-in_err-walks-clause-follows : goal.returns-in_err-walks-clause-follows
returns-in_err-walks-clause-follows c =
    let p = err_from_is_err_and c.from_residual-in_err-walks.result c.from_residual-in_err-walks.ensures.1 in
    let one = c.in_ok-importance.rest.now in
    rw (p.1, p.2) (part_stops c.in_err-walks.field-0.0 (reading after (walks_due 0 c.args.segs) one) (reading after (rest_due c.args.version c.args.segs) c.args.text.now)
    (reading after (orders_due 0 c.args.segs ++ (Cost ∷ []))) c.in_err-walks.ensures.follows (walks_left c.args.version c.args.segs c.args.text.now one c.in_ok-importance.ensures.follows))

pub returns-in_err-orders-clause-follows : goal.returns-in_err-orders-clause-follows
returns-in_err-orders-clause-follows c =
    let p = err_from_is_err_and c.from_residual-in_err-orders.result c.from_residual-in_err-orders.ensures.1 in
    let one = c.in_ok-importance.rest.now in
    let two = c.in_ok-walks.rest.now in
    rw (p.1, p.2) (part_stops c.in_err-orders.field-0.0 (reading after (orders_due 0 c.args.segs) two) (reading after (rest_due c.args.version c.args.segs) c.args.text.now)
    (reading after (Cost ∷ [])) c.in_err-orders.ensures.follows (orders_left c.args.version c.args.segs c.args.text.now one two c.in_ok-importance.ensures.follows c.in_ok-walks.ensures.follows))

pub returns-in_err-cost-clause-follows : goal.returns-in_err-cost-clause-follows
returns-in_err-cost-clause-follows c =
    let p = err_from_is_err_and c.from_residual-in_err-cost.result c.from_residual-in_err-cost.ensures.1 in
    let three = c.in_ok-orders.rest.now in
    rw (p.1, p.2) (line_stops c.in_err-cost.field-0.0 three (spoken_front (codes "cost") cost_of three) (reading after (rest_due c.args.version c.args.segs) c.args.text.now) c.in_err-cost.ensures
    (λ none. cost_left c.args.version c.args.segs c.args.text.now c.in_ok-importance.rest.now c.in_ok-walks.rest.now three c.in_ok-importance.ensures.follows c.in_ok-walks.ensures.follows c.in_ok-orders.ensures.follows ∙ cost_stops three none))

pub returns-clause-follows : goal.returns-clause-follows
returns-clause-follows c =
    cost_left c.args.version c.args.segs c.args.text.now c.in_ok-importance.rest.now c.in_ok-walks.rest.now c.in_ok-orders.rest.now c.in_ok-importance.ensures.follows c.in_ok-walks.ensures.follows c.in_ok-orders.ensures.follows
    ∙ cost_goes_on c.in_ok-orders.rest.now c.in_ok-cost.cost c.in_ok-cost.rest.now c.in_ok-cost.ensures

pub returns-clause-body : goal.returns-clause-body
returns-clause-body c =
    body_read c.args.version c.args.segs c.in_ok-importance.importance.items c.in_ok-walks.walks.items c.in_ok-orders.orders.items c.in_ok-cost.cost c.args.text.now c.in_ok-importance.rest.now c.in_ok-walks.rest.now c.in_ok-orders.rest.now c.in_ok-cost.rest.now
    c.in_ok-importance.ensures.importance c.in_ok-walks.ensures.walks c.in_ok-orders.ensures.orders c.in_ok-cost.ensures
