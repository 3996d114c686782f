use Rattle.std.proofs.Common.{◌+◌, ◌-◌, arith}
use Rattle.std.proofs.lemmas.Result.{err_from_is_err_and}
use Rattle.order_proof.specs.Reading.{parts_due, reading}
use Rattle.decimal_text.proofs.Stops.{part_stops}
use Rattle.order_proof.proofs.ReadParts.{part_next, part_taken, parts_end}
use Rattle.order_proof.proofs.reading.read_parts.Goals as goal

pub returns-in_err-part-clause-follows : goal.returns-in_err-part-clause-follows
returns-in_err-part-clause-follows c =
    let p = err_from_is_err_and c.from_residual.result c.from_residual.ensures.1 in
    rw (p.1, p.2) (part_stops c.in_err-part.field-0.0 (reading (parts_due 1) c.loop.rest.now) (reading (parts_due c.args.count) c.args.text.now) (reading (parts_due (c.args.count - (c.loop.counter + 1)))) c.in_err-part.ensures.follows
    (part_next c.args.count c.loop.counter c.loop.parts.items c.args.text.now c.loop.rest.now c.loop-test.true c.loop.invariant))

pub loop-preserved : goal.loop-preserved
loop-preserved c =
    part_taken c.args.count c.loop.counter c.loop.parts.items c.push.new.self.items c.args.text.now c.loop.rest.now c.in_ok-part.behind.now c.in_ok-part.part c.loop-test.true c.loop.invariant
    c.in_ok-part.ensures.follows c.in_ok-part.ensures.part c.in_ok-push.ensures.items

pub returns-clause-follows : goal.returns-clause-follows
returns-clause-follows c = parts_end c.args.count c.loop.counter c.loop.parts.items c.args.text.now c.loop.rest.now (omega arith) c.loop.invariant
