use Rattle.std.proofs.Common.{rules, ◌∙◌, sym, ap, Some}
use Rattle.std.proofs.lemmas.Slice.Eq.{slice_eq-Decides}
use Rattle.graph_core.specs.declared.parts.Join.{Join}
use Rattle.kept_walks.proofs.same_graphs.have_same_joins.Goals as goal

pub returns : goal.returns
returns c = λ h.
    c.joins-joins.ensures ∙ ap Some ((slice_eq-Decides (λ (a b : Join). search rules) c.joins-joins.result.now c.joins.result.now c.eq.result c.eq.ensures).0 h) ∙ sym c.joins.ensures
