use Rattle.std.proofs.Common.{[], arith}
use Rattle.dual_rounds.proofs.Filling.{fill_begins}
use Rattle.dual_ascent.specs.Averages.{nearest_on}
use Rattle.dual_ascent.proofs.Meeting.{averaged_are_orders}
use Rattle.dual_rounds.specs.Ranges.{averages_of}
use Rattle.dual_orders.specs.SettledPairs.{pairs_of}
use Rattle.dual_orders.proofs.Placing.{nearest_by, all_placed, placed_more}
use Rattle.dual_orders.proofs.averaged.put_averaged.Goals as goal

pub loop-s-init : goal.loop-s-init
loop-s-init c = (fill_begins (nearest_by c.args.part.now.problem.now c.args.settled.now (averages_of c.args.averages.now)) [] c.args.orders.now, c.requires.orders, c.requires.room)

pub loop-s-preserved : goal.loop-s-preserved
loop-s-preserved c =
    let known = c.len-s-end.ensures in
    let placed = placed_more c.args.part.now.problem.now.segs (nearest_on c.args.part.now.problem.now (pairs_of c.args.settled.now) (averages_of c.args.averages.now)) c.loop-s.s c.args.orders.now c.loop-s.orders c.put_nearest.new.orders c.loop-s.invariant.0
    (averaged_are_orders c.args.part.now.problem.now (pairs_of c.args.settled.now) (averages_of c.args.averages.now)) c.requires.orders c.loop-s.invariant.1 (omega (arith, known, c.loop-s-test.true)) c.put_nearest.ensures.orders in
    (placed.0, placed.1, c.put_nearest.ensures.room)

pub returns-clause-orders : goal.returns-clause-orders
returns-clause-orders c =
    let known = c.len-s-end.ensures in
    all_placed c.args.part.now.problem.now.segs (nearest_on c.args.part.now.problem.now (pairs_of c.args.settled.now) (averages_of c.args.averages.now)) c.loop-s.s c.args.orders.now c.loop-s.orders c.loop-s.invariant.0
    (omega (arith, known, c.loop-s-test.false)) c.requires.orders
