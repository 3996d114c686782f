use Rattle.std.proofs.Common.{rules, ◌∙◌, sym, ap, Some}
use Rattle.std.proofs.lemmas.Slice.Eq.{slice_eq-Decides}
use Rattle.map_base.specs.declared.ids.LineId.{LineId}
use Rattle.kept_walks.proofs.same_graphs.have_same_lines.Goals as goal

pub returns : goal.returns
returns c = λ h.
    c.lines-lines.ensures ∙ ap Some ((slice_eq-Decides (λ (a b : LineId). search rules) c.lines-lines.result.now c.lines.result.now c.eq.result c.eq.ensures).0 h) ∙ sym c.lines.ensures
