use Rattle.std.proofs.Common.{length, ◌∙◌, ap, arith}
use Rattle.dual_orders.proofs.OwnTables.{pushed_segment, all_segments_pushed}
use Rattle.dual_orders.proofs.part.all_segments.Goals as goal

pub loop-s-preserved : goal.loop-s-preserved
loop-s-preserved c =
    let same = ap length c.segs-count.ensures.lists in
    c.in_ok-push.ensures.items ∙ pushed_segment c.args.problem.now.segs c.loop-s.s c.loop-s.segments.items
    c.loop-s.invariant (omega (arith, same, c.loop-s-test.true))

pub returns-clause-items : goal.returns-clause-items
returns-clause-items c =
    let same = ap length c.segs-count.ensures.lists in
    all_segments_pushed c.args.problem.now.segs c.loop-s.s c.loop-s.segments.items c.loop-s.invariant
    (omega (arith, same, c.loop-s-test.false))
