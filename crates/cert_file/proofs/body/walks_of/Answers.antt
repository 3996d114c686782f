use Rattle.std.proofs.Common.{List, subst, sym, arith}
use Rattle.std.proofs.lemmas.Result.{err_from_is_err_and}
use Rattle.octi_grid.specs.Walks.{PlainWalk}
use Rattle.decimal_text.specs.Lines.{front}
use Rattle.decimal_text.specs.Reading.{reading}
use Rattle.decimal_text.proofs.Stops.{line_stops}
use Rattle.cert_file.specs.Forms.{walk_in}
use Rattle.cert_file.specs.Reading.{after, walks_due}
use Rattle.cert_file.proofs.Bodies.{AreWalksSoFar, walks_begin, walk_taken, walk_stops, walks_end}
use Rattle.cert_file.proofs.body.walks_of.Goals as goal

pub loop-s-init : goal.loop-s-init
loop-s-init c = subst (λ (xs : List PlainWalk). AreWalksSoFar c.args.segs 0 xs c.args.text.now c.args.text.now) (sym c.new-walks.ensures.items) (walks_begin c.args.segs c.args.text.now)

pub returns-in_err-walk-clause-follows : goal.returns-in_err-walk-clause-follows
returns-in_err-walk-clause-follows c =
    let p = err_from_is_err_and c.from_residual.result c.from_residual.ensures.1 in
    rw (p.1, p.2) (line_stops c.in_err-walk.field-0.0 c.loop-s.rest.now (front (walk_in c.loop-s.s) c.loop-s.rest.now) (reading after (walks_due 0 c.args.segs) c.args.text.now) c.in_err-walk.ensures
    (walk_stops c.args.segs c.loop-s.s c.loop-s.walks.items c.args.text.now c.loop-s.rest.now c.loop-s-test.true c.loop-s.invariant))

pub loop-s-preserved : goal.loop-s-preserved
loop-s-preserved c =
    walk_taken c.args.segs c.loop-s.s c.loop-s.walks.items c.push.new.self.items c.args.text.now c.loop-s.rest.now c.in_ok-walk.behind.now c.in_ok-walk.walk c.loop-s-test.true c.loop-s.invariant c.in_ok-walk.ensures c.in_ok-push.ensures.items

pub returns-clause-follows : goal.returns-clause-follows
returns-clause-follows c = walks_end c.args.segs c.loop-s.s c.loop-s.walks.items c.args.text.now c.loop-s.rest.now (omega arith) c.loop-s.invariant
