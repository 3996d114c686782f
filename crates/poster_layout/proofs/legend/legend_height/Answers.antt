use Rattle.std.proofs.Common.{◌≡◌, ℕ, ◌-◌, ◌*◌, min, ap, ◌∙◌, arith}
use Rattle.std.proofs.Math.Nat.{min-le_left}
use Rattle.poster_layout.proofs.legend.legend_height.Goals as goal

pub returns-clause-value : goal.returns-clause-value
returns-clause-value c =
    let same : c.from.result ≡ c.min.result = omega arith in
    c.saturating_sub.ensures ∙ ap (λ (n : ℕ). 45 * n - 15) (same ∙ c.min.ensures ∙ ap (min c.args.lines) c.rows_for.ensures.value)

pub returns-clause-small : goal.returns-clause-small
returns-clause-small c =
    let same : c.from.result ≡ c.min.result = omega arith in
    omega (arith, c.saturating_sub.ensures, same, c.min.ensures, min-le_left c.args.lines c.rows_for.result)
