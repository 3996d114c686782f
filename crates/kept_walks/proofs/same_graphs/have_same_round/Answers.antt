use Rattle.std.proofs.Common.{rules, ◌∙◌, sym, ap, Some}
use Rattle.std.proofs.lemmas.Slice.Eq.{slice_eq-Decides}
use Rattle.map_base.specs.declared.ids.SegId.{SegId}
use Rattle.kept_walks.proofs.same_graphs.have_same_round.Goals as goal

pub returns : goal.returns
returns c = λ h.
    c.round-round.ensures ∙ ap Some ((slice_eq-Decides (λ (a b : SegId). search rules) c.round-round.result.now c.round.result.now c.eq.result c.eq.ensures).0 h) ∙ sym c.round.ensures
