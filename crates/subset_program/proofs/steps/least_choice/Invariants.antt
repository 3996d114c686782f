use Rattle.std.proofs.Common.{◌≡◌, Some}
use Rattle.std.specs.Option.{option_map}
use Rattle.least_orders.specs.declared.choice.Choice.{Choice}
use Rattle.subset_program.specs.PlainRows.{plain_rows}
use Rattle.subset_program.specs.Tables.{read, best_head}
use Rattle.subset_program.proofs.steps.least_choice.Given as goal

abbrev pub invariant-loop-i : goal.invariant-loop-i
invariant-loop-i l = read l.least ≡ option_map (λ (c : Choice). c.cost) (best_head (plain_rows l.rows) (Some l.last) l.heads l.i)
