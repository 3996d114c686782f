use Rattle.std.proofs.Common.{length, ◌∙◌}
use Rattle.order_untangle.specs.Segments.{closure_at, place_group, rows_of}
use Rattle.order_untangle.proofs.MarkLemmas.{first_more, all_in}
use Rattle.order_untangle.proofs.grouping.least_group.Goals as goal

pub loop-start-preserved : goal.loop-start-preserved
loop-start-preserved c =
    c.loop-start.invariant
    ∙ first_more (place_group (rows_of c.args.rows.now) c.args.lines.now) (length c.args.lines.now) c.loop-start.start c.loop-start-test.true
    (all_in c.args.lines.now (closure_at (rows_of c.args.rows.now) c.args.lines.now c.loop-start.start) c.as_slice.result.now c.leaves_some.result
    c.leaves_some.ensures c.if-leaves_some.false (c.as_slice.ensures.value ∙ c.in_ok-group.ensures))
