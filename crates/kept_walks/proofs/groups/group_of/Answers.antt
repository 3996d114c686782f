use Rattle.std.proofs.Common.{◌∙◌, sym, ap, ap₂, subst, List}
use Rattle.map_base.specs.declared.ids.NodeId.{NodeId}
use Rattle.line_chains.specs.declared.chain.Chain.{Chain}
use Rattle.run_laying.specs.Searches.{attempts_by}
use Rattle.drawing_search.specs.declared.group.Group.{Group}
use Rattle.drawing_search.specs.Changes.{AreApart}
use Rattle.kept_walks.specs.Straightening.{runs_at}
use Rattle.kept_walks.proofs.Pushed.{attempts_moved}
use Rattle.kept_walks.proofs.groups.group_of.Goals as goal

pub returns-clause-attempts : goal.returns-clause-attempts
returns-clause-attempts c =
    let group : Group = record { nodes = c.of.result; lengths = c.args.lengths; runs = c.of-2.result } in
    attempts_moved group c.requires.some
    ∙ ap₂ (λ (ns : List NodeId) (cs : List Chain). attempts_by c.args.lengths ns cs) c.of.ensures
    (c.of-2.ensures ∙ c.in_ok-found.ensures ∙ ap (λ (ns : List NodeId). runs_at ns c.args.runs.now) c.deref.ensures.value)

pub returns-clause-sound : goal.returns-clause-sound
returns-clause-sound c = (subst AreApart (sym c.of.ensures) c.requires.apart, c.requires.few)
