use Rattle.std.proofs.Common.{ℕ, ◌+◌, ◌-◌, ◌*◌, min, ap, ◌∙◌}
use Rattle.poster_table.proofs.cells.count_of.Goals as goal

pub returns : goal.returns
returns c =
    c.product.ensures
    ∙ ap (λ (n : ℕ). n * c.count_between-rows.result) c.count_between-columns.ensures.value
    ∙ ap (λ (n : ℕ). min (c.args.cells.right + 1 - c.args.cells.left) 1048576 * n) c.count_between-rows.ensures.value
