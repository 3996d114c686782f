use Rattle.std.proofs.Common.{sym, ◌∙◌}
use Rattle.subset_program.specs.PlainRows.{plain_rows}
use Rattle.subset_program.proofs.Walking.{no_order}
use Rattle.subset_program.proofs.table.least_order.Goals as goal

pub returns-in_err-cost-clause-order : goal.returns-in_err-cost-clause-order
returns-in_err-cost-clause-order c = no_order (plain_rows c.args.rows.now) c.args.order.now (sym (c.in_err-cost.was {u = tt}) ∙ c.least_cost.ensures.cost)
