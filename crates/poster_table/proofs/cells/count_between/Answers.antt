use Rattle.std.proofs.Common.{ℕ, ◌∙◌, min, ap, arith}
use Rattle.std.proofs.Math.Nat.{min-le_right}
use Rattle.poster_table.proofs.cells.count_between.Goals as goal

pub returns-clause-value : goal.returns-clause-value
returns-clause-value c = c.min.ensures ∙ ap (λ (n : ℕ). min n 1048576) c.saturating_sub.ensures

pub returns-clause-small : goal.returns-clause-small
returns-clause-small c = omega (arith, c.min.ensures, min-le_right c.saturating_sub.result 1048576)
