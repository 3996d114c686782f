use Rattle.std.proofs.Common.{sym, ◌∙◌}
use Rattle.dual_orders.proofs.Solving.{written_least, unwritten_least}
use Rattle.dual_orders.proofs.solver.take_least.Goals as goal

pub returns-in-Some-clause-found : goal.returns-in-Some-clause-found
returns-in-Some-clause-found c = λ costs settled tells.
    written_least costs settled c.args.lines.now c.args.found.now c.least_order.new.order c.in-Some.field-0
    (sym c.in-Some.is ∙ c.least_order.ensures.cost costs settled tells)
    (c.least_order.ensures.order costs settled tells)

pub returns-in-None-clause-found : goal.returns-in-None-clause-found
returns-in-None-clause-found c = λ costs settled tells.
    c.copy_from_slice.ensures.after ∙ unwritten_least costs settled c.args.lines.now
    (sym c.in-None.is ∙ c.least_order.ensures.cost costs settled tells)
