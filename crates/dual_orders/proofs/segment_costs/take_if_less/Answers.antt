use Rattle.std.proofs.Common.{◌≡◌, ◌<◌, List, [], get_or, set, sym, ◌∙◌, ap, subst, arith}
use Rattle.std.proofs.lemmas.List.{get_or_default}
use Rattle.map_base.specs.declared.ids.LineId.{LineId}
use Rattle.order_model.specs.declared.problem.ProblemParts.{ProblemParts}
use Rattle.order_model.specs.Costs.{cost_of}
use Rattle.dual_ascent.proofs.OwnParts.{seg_number}
use Rattle.dual_orders.specs.OwnTerms.{cost_on}
use Rattle.dual_orders.proofs.Exchanging.{taken, not_taken}
use Rattle.dual_orders.proofs.segment_costs.take_if_less.Goals as goal

pub returns-then-cost_with-now-clause-value : goal.returns-then-cost_with-now-clause-value
returns-then-cost_with-now-clause-value c =
    let p : ProblemParts = c.args.part.now.problem.now in
    let orders : List (List LineId) = c.args.orders.now in
    let mine : c.as_slice.result.now ≡ get_or orders c.args.s [] = c.as_slice.ensures
    ∙ (c.index-mine-s.is ∙ get_or_default orders c.args.s c.index-mine-s.result []
    (omega (arith, c.requires.each, c.requires.known))) in
    let now : c.cost_with-now.result ≡ cost_on p (seg_number c.args.s)
    (set orders c.args.s (get_or orders c.args.s [])) = c.cost_with-now.ensures ∙ ap
    (λ o. cost_on p (seg_number c.args.s) (set orders c.args.s o)) mine in
    c.set_order.ensures ∙ sym
    (taken p c.requires.part.fits.terms orders c.args.s c.args.order.now c.cost_with-now.result c.cost_with.result now
    c.cost_with.ensures c.if-cost_with-now.true).0

pub returns-then-cost_with-now-clause-less : goal.returns-then-cost_with-now-clause-less
returns-then-cost_with-now-clause-less c =
    let p : ProblemParts = c.args.part.now.problem.now in
    let orders : List (List LineId) = c.args.orders.now in
    let mine : c.as_slice.result.now ≡ get_or orders c.args.s [] = c.as_slice.ensures
    ∙ (c.index-mine-s.is ∙ get_or_default orders c.args.s c.index-mine-s.result []
    (omega (arith, c.requires.each, c.requires.known))) in
    let now : c.cost_with-now.result ≡ cost_on p (seg_number c.args.s)
    (set orders c.args.s (get_or orders c.args.s [])) = c.cost_with-now.ensures ∙ ap
    (λ o. cost_on p (seg_number c.args.s) (set orders c.args.s o)) mine in
    let less : cost_of p.terms (set orders c.args.s c.args.order.now) < cost_of p.terms orders =
    (taken p c.requires.part.fits.terms orders c.args.s c.args.order.now c.cost_with-now.result c.cost_with.result now
    c.cost_with.ensures c.if-cost_with-now.true).1 in
    λ so. subst (λ (o : List (List LineId)). cost_of p.terms o < cost_of p.terms orders) (sym c.set_order.ensures) less

pub returns-clause-value : goal.returns-clause-value
returns-clause-value c =
    let p : ProblemParts = c.args.part.now.problem.now in
    let orders : List (List LineId) = c.args.orders.now in
    let mine : c.as_slice.result.now ≡ get_or orders c.args.s [] = c.as_slice.ensures
    ∙ (c.index-mine-s.is ∙ get_or_default orders c.args.s c.index-mine-s.result []
    (omega (arith, c.requires.each, c.requires.known))) in
    let now : c.cost_with-now.result ≡ cost_on p (seg_number c.args.s)
    (set orders c.args.s (get_or orders c.args.s [])) = c.cost_with-now.ensures ∙ ap
    (λ o. cost_on p (seg_number c.args.s) (set orders c.args.s o)) mine in
    sym (not_taken p c.requires.part.fits.terms orders c.args.s c.args.order.now c.cost_with-now.result
    c.cost_with.result now c.cost_with.ensures c.if-cost_with-now.false)
