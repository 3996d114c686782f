use Rattle.std.proofs.Common.{sym, ◌∙◌}
use Rattle.least_orders.proofs.Keeping.{least_cost_of_rows}
use Rattle.subset_program.specs.PlainRows.{plain_rows}
use Rattle.subset_program.proofs.table.least_cost.Goals as goal

pub returns-clause-cost : goal.returns-clause-cost
returns-clause-cost c = c.whole_cost.ensures ∙ sym (least_cost_of_rows (plain_rows c.args.rows.now))
