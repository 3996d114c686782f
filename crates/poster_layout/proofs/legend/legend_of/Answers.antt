use Rattle.std.proofs.Common.{ℕ, ap, ◌∙◌, arith}
use Rattle.poster_plan.specs.Legends.{legend_start, legend_width}
use Rattle.poster_layout.proofs.Cornering.{no_legend, same_legend, some_legend}
use Rattle.poster_layout.proofs.legend.legend_of.Goals as goal

pub returns-then-lines-eq0-clause-value : goal.returns-then-lines-eq0-clause-value
returns-then-lines-eq0-clause-value c = no_legend c.args.pitch c.args.plan.now c.args.printed.now c.args.lines c.args.widest c.if-lines-eq0.true

pub returns-clause-value : goal.returns-clause-value
returns-clause-value c =
    let u = c.args.pitch in
    let plan = c.args.plan.now in
    let printed = c.args.printed.now in
    some_legend u plan printed c.args.lines c.args.widest _ (omega (arith, c.if-lines-eq0.false))
    (same_legend _ _ _ _ _ _
    (c.legend_start-start.ensures.value
    ∙ ap (λ (w : ℕ). legend_start u plan printed w c.legend_height-height.result) c.legend_width-width.ensures.value
    ∙ ap (legend_start u plan printed (legend_width c.args.lines c.args.widest)) c.legend_height-height.ensures.value)
    c.column_for.ensures.value c.rows_for.ensures.value)

pub returns-clause-near : goal.returns-clause-near
returns-clause-near c = record { start = c.legend_start-start.ensures.near; column = c.column_for.ensures.small; rows = c.rows_for.ensures.some }
