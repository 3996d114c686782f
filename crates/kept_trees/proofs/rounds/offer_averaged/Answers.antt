use Rattle.std.proofs.Common.{◌≡◌, List, sym, ◌∙◌, ap, subst}
use Rattle.std.proofs.lemmas.List.{with_items_is}
use Rattle.std.specs.Vec.{with_items}
use Rattle.map_base.specs.declared.ids.LineId.{LineId}
use Rattle.order_model.specs.declared.problem.ProblemParts.{ProblemParts}
use Rattle.order_model.specs.Costs.{AreOrders}
use Rattle.dual_ascent.specs.Averages.{averaged_orders}
use Rattle.dual_ascent.specs.LocalSearch.{after_offer}
use Rattle.dual_ascent.proofs.Meeting.{averaged_are_orders}
use Rattle.dual_rounds.specs.Ranges.{averages_of}
use Rattle.dual_orders.specs.Values.{incumbent_of}
use Rattle.dual_orders.specs.SettledPairs.{pairs_of}
use Rattle.kept_trees.proofs.rounds.offer_averaged.Goals as goal

pub offer_trial-requires-clause-now : goal.offer_trial-requires-clause-now
offer_trial-requires-clause-now c =
    let p : ProblemParts = c.args.search.now.part.problem.now in
    record {
      incumbent = c.requires.now.incumbent;
      trial = subst (AreOrders p.segs)
          (sym (with_items_is c.args.now.now.trial c.put_averaged.new.orders
          (c.put_averaged.auto.orders ∙ c.as_mut_slice.ensures.len) ∙ c.put_averaged.ensures.orders))
          (averaged_are_orders p (pairs_of c.args.settled.now) (averages_of c.as_slice.result.now));
      room = c.put_averaged.ensures.room;
      within = c.requires.now.within;
    }

pub returns-clause-offered : goal.returns-clause-offered
returns-clause-offered c =
    let p : ProblemParts = c.args.search.now.part.problem.now in
    let is : (with_items c.args.now.now.trial c.put_averaged.new.orders).items
    ≡ averaged_orders p (pairs_of c.args.settled.now) (averages_of c.args.ascent.now.averages.items) =
    with_items_is c.args.now.now.trial c.put_averaged.new.orders
    (c.put_averaged.auto.orders ∙ c.as_mut_slice.ensures.len)
    ∙ (c.put_averaged.ensures.orders
    ∙ ap (λ l. averaged_orders p (pairs_of c.args.settled.now) (averages_of l)) c.as_slice.ensures.value) in
    c.offer_trial.ensures.offered
    ∙ ap (λ (o : List (List LineId)). after_offer p o (incumbent_of c.args.now.now.incumbent)) is
