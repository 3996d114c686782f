use Rattle.std.proofs.Common.{sym, subst, ap, ◌∙◌, length}
use Rattle.graph_core.specs.declared.parts.GraphParts.{GraphParts}
use Rattle.graph_core.specs.Consistent.{IsConsistent}
use Rattle.walk_tests.proofs.Consistency.{row_consistent}
use Rattle.walk_tests.proofs.graphs.three_in_a_row.Goals as goal

pub new-requires : goal.new-requires
new-requires c = subst IsConsistent (sym c.in_ok-parts.ensures) row_consistent

pub returns : goal.returns
returns c = ap (λ (g : GraphParts). length g.ends) (c.new.ensures ∙ c.in_ok-parts.ensures)
