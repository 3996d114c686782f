use Rattle.std.proofs.Common.{ap, sym, ◌∙◌, arith}
use Rattle.eight_sides.specs.Shapes.{meet}
use Rattle.poster_plan.specs.declared.plan.Mark.{Mark}
use Rattle.poster_plan.specs.Signs.{mark_at}
use Rattle.poster_table.proofs.Finding.{any_here, any_none, any_past}
use Rattle.poster_layout.proofs.legend.meets_mark.Goals as goal

pub loop-mark-preserved : goal.loop-mark-preserved
loop-mark-preserved c =
    any_past (λ (x : Mark). meet c.args.shape (mark_at c.args.pitch x)) c.args.marks.now c.loop-mark.mark-index c.mark-item.result c.loop-mark-test.true
    (ap (λ (x : Mark). meet c.args.shape (mark_at c.args.pitch x)) (sym c.mark-item.is) ∙ ap (meet c.args.shape) (sym c.mark_at.ensures.value) ∙ sym c.meet.ensures ∙ c.if-meet.false) c.loop-mark.invariant

pub returns-then-meet : goal.returns-then-meet
returns-then-meet c =
    any_here (λ (x : Mark). meet c.args.shape (mark_at c.args.pitch x)) c.args.marks.now c.loop-mark.mark-index c.mark-item.result c.loop-mark-test.true
    (ap (λ (x : Mark). meet c.args.shape (mark_at c.args.pitch x)) (sym c.mark-item.is) ∙ ap (meet c.args.shape) (sym c.mark_at.ensures.value) ∙ sym c.meet.ensures ∙ c.if-meet.true)

pub returns : goal.returns
returns c = any_none (λ (x : Mark). meet c.args.shape (mark_at c.args.pitch x)) c.args.marks.now c.loop-mark.mark-index (omega arith) c.loop-mark.invariant
