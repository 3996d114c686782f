use Rattle.std.proofs.Common.{sym, ◌∙◌, ap, subst}
use Rattle.std.proofs.lemmas.List.{with_items_is}
use Rattle.order_model.specs.declared.problem.ProblemParts.{ProblemParts}
use Rattle.order_model.specs.Costs.{AreOrders, cost_of}
use Rattle.dual_ascent.specs.LocalSearch as local
use Rattle.dual_ascent.proofs.Meeting.{number_orders}
use Rattle.dual_orders.proofs.Valuing.{incumbent_is}
use Rattle.dual_orders.proofs.local_search.first_incumbent.Goals as goal

pub descend-requires-clause-orders : goal.descend-requires-clause-orders
descend-requires-clause-orders c =
    subst (AreOrders c.args.part.now.problem.now.segs)
    (sym (c.as_mut_slice.ensures.value ∙ (c.in_ok-orders.ensures ∙ c.segs.ensures.lists)))
    (number_orders c.args.part.now.problem.now.segs)

pub returns-clause-best : goal.returns-clause-best
returns-clause-best c =
    let p : ProblemParts = c.args.part.now.problem.now in
    let orders = with_items_is c.in_ok-orders.orders c.descend.new.orders
    (c.descend.auto.orders ∙ c.as_mut_slice.ensures.len) in
    let is = orders ∙ (c.descend.ensures.orders ∙ ap (local.local_minimum p)
    (c.as_mut_slice.ensures.value ∙ (c.in_ok-orders.ensures ∙ c.segs.ensures.lists))) in
    incumbent_is p c.cost_of-cost.result _ (local.local_minimum p p.segs)
    (c.cost_of-cost.ensures.value ∙ ap (cost_of p.terms) c.as_slice.ensures.value) is
