use Rattle.std.proofs.Common.{ap, sym, ◌∙◌, arith}
use Rattle.eight_sides.specs.Shapes.{meet}
use Rattle.poster_plan.specs.declared.layout.Printed.{Printed}
use Rattle.poster_plan.specs.Placing.{printed_shape}
use Rattle.poster_table.proofs.Finding.{any_here, any_none, any_past}
use Rattle.poster_layout.proofs.legend.meets_printed.Goals as goal

pub loop-name-preserved : goal.loop-name-preserved
loop-name-preserved c =
    any_past (λ (x : Printed). meet c.args.shape (printed_shape c.args.pitch c.args.plan.now x)) c.args.printed.now c.loop-name.name-index _ c.loop-name-test.true
    (ap (meet c.args.shape) (sym c.printed_shape.ensures.value) ∙ sym c.meet.ensures ∙ c.if-meet.false) c.loop-name.invariant

pub returns-then-meet : goal.returns-then-meet
returns-then-meet c =
    any_here (λ (x : Printed). meet c.args.shape (printed_shape c.args.pitch c.args.plan.now x)) c.args.printed.now c.loop-name.name-index _ c.loop-name-test.true
    (ap (meet c.args.shape) (sym c.printed_shape.ensures.value) ∙ sym c.meet.ensures ∙ c.if-meet.true)

pub returns : goal.returns
returns c = any_none (λ (x : Printed). meet c.args.shape (printed_shape c.args.pitch c.args.plan.now x)) c.args.printed.now c.loop-name.name-index (omega arith) c.loop-name.invariant
