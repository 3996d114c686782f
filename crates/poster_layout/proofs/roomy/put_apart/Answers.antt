use Rattle.std.proofs.Common.{not, ap, sym, ◌∙◌}
use Rattle.poster_layout.proofs.roomy.put_apart.Goals as goal

pub returns-then-clashes-clause-apart : goal.returns-then-clashes-clause-apart
returns-then-clashes-clause-apart c = sym (ap not (sym c.clashes.ensures ∙ c.if-clashes.true))

pub returns-then-clashes-clause-table : goal.returns-then-clashes-clause-table
returns-then-clashes-clause-table c = λ e. absurd cc

pub returns-clause-apart : goal.returns-clause-apart
returns-clause-apart c = sym (ap not (sym c.clashes.ensures ∙ c.if-clashes.false))

pub returns-clause-table : goal.returns-clause-table
returns-clause-table c = λ e. (c.in_ok-put.ensures.table, c.in_ok-put.ensures.things)
