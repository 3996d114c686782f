use Rattle.std.proofs.Common.{◌≡◌, List, length, sym, ◌∙◌, ap, subst}
use Rattle.std.proofs.lemmas.List.{with_items_is}
use Rattle.std.specs.Vec.{with_items}
use Rattle.map_base.specs.declared.ids.LineId.{LineId}
use Rattle.order_model.specs.declared.problem.ProblemParts.{ProblemParts}
use Rattle.order_model.specs.Costs.{AreOrders}
use Rattle.order_model.proofs.OrderLemmas.{length-orders}
use Rattle.dual_ascent.specs.OwnNumbers.{listed}
use Rattle.dual_ascent.specs.LocalSearch.{after_offer}
use Rattle.dual_ascent.specs.Walks.{stopped, exact_prices, orders_left}
use Rattle.dual_ascent.proofs.Meeting.{left_orders}
use Rattle.dual_orders.specs.Values.{incumbent_of}
use Rattle.dual_orders.specs.SettledPairs.{pairs_of}
use Rattle.kept_trees.proofs.walk.stop_at_orders.Goals as goal
use Rattle.kept_trees.proofs.walk.stop_at_orders.Goals.{After-put_left}

-- the orders that are left were put in place
left : (c : After-put_left)
    → (with_items c.args.now.now.trial c.put_left.new.orders).items
    ≡ orders_left c.args.search.now.part.problem.now (pairs_of c.args.settled.now)
left c =
    with_items_is c.args.now.now.trial c.put_left.new.orders (c.put_left.auto.orders ∙ c.as_mut_slice.ensures.len)
    ∙ c.put_left.ensures.orders

are_orders : (c : After-put_left)
    → AreOrders c.args.search.now.part.problem.now.segs (with_items c.args.now.now.trial c.put_left.new.orders).items
are_orders c =
    let p : ProblemParts = c.args.search.now.part.problem.now in
    subst (AreOrders p.segs) (sym (left c)) (left_orders p (pairs_of c.args.settled.now))

pub exact_prices-requires : goal.exact_prices-requires
exact_prices-requires c =
    ap length c.as_slice.ensures.value
    ∙ sym (length-orders c.args.search.now.part.problem.now.segs
    (with_items c.args.now.now.trial c.put_left.new.orders).items
    (are_orders (goal.at.exact_prices-requires c).After-put_left))

pub returns-in_err-prices-clause-now : goal.returns-in_err-prices-clause-now
returns-in_err-prices-clause-now c =
    let trial = are_orders (goal.at.returns-in_err-prices-clause-now c).After-put_left in
    let r = c.requires.now in
    record { incumbent = r.incumbent; trial = trial; room = c.put_left.ensures.room; within = r.within }

pub returns-in_err-prices-2-clause-now : goal.returns-in_err-prices-2-clause-now
returns-in_err-prices-2-clause-now c =
    let trial = are_orders (goal.at.returns-in_err-prices-2-clause-now c).After-put_left in
    let r = c.requires.now in
    record { incumbent = r.incumbent; trial = trial; room = c.put_left.ensures.room; within = r.within }

pub offer_trial-requires-clause-now : goal.offer_trial-requires-clause-now
offer_trial-requires-clause-now c =
    let trial = are_orders (goal.at.offer_trial-requires-clause-now c).After-put_left in
    let r = c.requires.now in
    record { incumbent = r.incumbent; trial = trial; room = c.put_left.ensures.room; within = r.within }

pub returns-clause-stop : goal.returns-clause-stop
returns-clause-stop c =
    let p : ProblemParts = c.args.search.now.part.problem.now in
    let orders = c.as_slice.ensures.value ∙ left (goal.at.returns-clause-stop c).After-put_left in
    let prices = c.as_slice-2.ensures.value ∙ (c.in_ok-prices.ensures ∙ ap (exact_prices p) orders) in
    ap stopped (c.in_ok-prices-2.ensures ∙ ap listed prices)

pub returns-clause-offered : goal.returns-clause-offered
returns-clause-offered c =
    let p : ProblemParts = c.args.search.now.part.problem.now in
    c.offer_trial.ensures.offered
    ∙ ap (λ (o : List (List LineId)). after_offer p o (incumbent_of c.args.now.now.incumbent))
    (left (goal.at.returns-clause-offered c).After-put_left)
