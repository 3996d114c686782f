use Rattle.std.proofs.Common.{List, ◌∙◌, ap}
use Rattle.map_base.specs.declared.ids.LineId.{LineId}
use Rattle.dual_ascent.specs.LocalSearch.{after_offer}
use Rattle.dual_orders.specs.Values.{incumbent_of}
use Rattle.kept_trees.proofs.rounds.offer_trial.Goals as goal

pub returns-clause-offered : goal.returns-clause-offered
returns-clause-offered c =
    c.offer.ensures.best
    ∙ ap (λ (o : List (List LineId)). after_offer c.args.search.now.part.problem.now o
    (incumbent_of c.args.now.now.incumbent)) c.as_mut_slice.ensures.value
