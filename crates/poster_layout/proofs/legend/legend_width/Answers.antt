use Rattle.std.proofs.Common.{ℕ, ◌+◌, ◌-◌, ◌*◌, ◌/◌, ap, ◌∙◌, arith}
use Rattle.poster_plan.specs.Legends.{column_for}
use Rattle.poster_layout.proofs.legend.legend_width.Goals as goal

pub returns-clause-value : goal.returns-clause-value
returns-clause-value c =
    c.saturating_sub.ensures
    ∙ ap (λ (n : ℕ). n - 60)
    (c.times.ensures.value
    ∙ ap (λ (n : ℕ). n * c.columns_for-columns.result) c.column_for.ensures.value
    ∙ ap (λ (n : ℕ). column_for c.args.widest * n) (c.columns_for-columns.ensures.value ∙ ap (λ (r : ℕ). (c.args.lines + r - 1) / r) c.rows_for.ensures.value))

pub returns-clause-small : goal.returns-clause-small
returns-clause-small c = omega (arith, c.saturating_sub.ensures, c.times.ensures.small, c.columns_for-columns.ensures.small)
