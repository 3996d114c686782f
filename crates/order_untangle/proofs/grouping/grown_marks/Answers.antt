use Rattle.std.proofs.Common.{Bool, ◌-◌, length, sym, ap, ◌∙◌}
use Rattle.std.specs.Prelude.{Vec}
use Rattle.std.specs.Global.{Global}
use Rattle.order_untangle.specs.Segments.{next_marks, rows_of}
use Rattle.order_untangle.proofs.MarkLemmas.{grown_still, grown_more}
use Rattle.order_untangle.proofs.grouping.grown_marks.Goals as goal

pub returns-then-same_marks : goal.returns-then-same_marks
returns-then-same_marks c =
    grown_still (rows_of c.args.rows.now) (length c.args.rows.now - c.loop.counter) c.loop.marks.items c.fill_next.new.next.items
    (c.in_ok-fill_next.ensures ∙ ap (next_marks (rows_of c.args.rows.now)) c.as_slice.ensures.value)
    (sym c.as_slice-in-loop.ensures.value ∙ (c.same_marks.ensures.0 c.if-same_marks.true ∙ c.as_slice-in-loop-2.ensures.value))
    ∙ c.loop.invariant

pub loop-preserved : goal.loop-preserved
loop-preserved c =
    grown_more (rows_of c.args.rows.now) (length c.args.rows.now) c.loop.counter c.loop.marks.items c.swap.new.x.items c.loop-test.true
    (ap (λ (v : Vec Bool Global). v.items) c.swap.ensures.x_after ∙ (c.in_ok-fill_next.ensures ∙ ap (next_marks (rows_of c.args.rows.now)) c.as_slice.ensures.value))
    ∙ c.loop.invariant
