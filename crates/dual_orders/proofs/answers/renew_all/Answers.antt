use Rattle.std.proofs.Common.{List, [], get_or, ◌∙◌, ap, arith}
use Rattle.map_base.specs.declared.ids.LineId.{LineId}
use Rattle.dual_rounds.proofs.Filling.{fill_begins}
use Rattle.dual_ascent.specs.DualSteps.{answer_on}
use Rattle.dual_ascent.proofs.Meeting.{answers_orders}
use Rattle.dual_ascent.proofs.OwnParts.{all_made_at}
use Rattle.dual_orders.specs.SettledPairs.{pairs_of}
use Rattle.dual_orders.proofs.Placing.{answers_by, all_placed, placed_more}
use Rattle.dual_orders.proofs.answers.renew_all.Goals as goal

pub loop-s-init : goal.loop-s-init
loop-s-init c = (fill_begins (answers_by c.args.part.now.problem.now c.args.settled.now c.args.prices.now) [] c.args.orders.now, c.requires.orders, c.requires.room)

pub renew-requires-clause-known : goal.renew-requires-clause-known
renew-requires-clause-known c = λ so.
    (let known = c.len-s-end.ensures in
    let p = c.args.part.now.problem.now in
    c.loop-s.invariant.0.rest c.loop-s.s (omega arith)
    ∙ (ap (λ (l : List (List LineId)). get_or l c.loop-s.s []) (c.requires.known so)
    ∙ all_made_at p.segs (answer_on p (pairs_of c.args.settled.now) c.args.earlier.now) c.loop-s.s []
    (omega (arith, known, c.loop-s-test.true))))

pub loop-s-preserved : goal.loop-s-preserved
loop-s-preserved c =
    let known = c.len-s-end.ensures in
    let placed = placed_more c.args.part.now.problem.now.segs (answer_on c.args.part.now.problem.now (pairs_of c.args.settled.now) c.args.prices.now) c.loop-s.s c.args.orders.now c.loop-s.orders c.renew.new.orders c.loop-s.invariant.0
    (answers_orders c.args.part.now.problem.now (pairs_of c.args.settled.now) c.args.prices.now) c.requires.orders c.loop-s.invariant.1 (omega (arith, known, c.loop-s-test.true)) c.renew.ensures.orders in
    (placed.0, placed.1, c.renew.ensures.room)

pub returns-clause-orders : goal.returns-clause-orders
returns-clause-orders c =
    let known = c.len-s-end.ensures in
    all_placed c.args.part.now.problem.now.segs (answer_on c.args.part.now.problem.now (pairs_of c.args.settled.now) c.args.prices.now) c.loop-s.s c.args.orders.now c.loop-s.orders c.loop-s.invariant.0
    (omega (arith, known, c.loop-s-test.false)) c.requires.orders
