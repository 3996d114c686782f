use Rattle.std.proofs.Common.{◌≡◌, List, [], ◌∷◌, length, sym, ◌∙◌, ap, subst, arith}
use Rattle.std.specs.Prelude.{unwrap_or}
use Rattle.map_base.specs.declared.ids.LineId.{LineId}
use Rattle.order_model.specs.declared.problem.ProblemParts.{ProblemParts}
use Rattle.order_model.specs.Problems.{lines_on}
use Rattle.order_model.specs.Costs.{AreOrders}
use Rattle.order_model.proofs.OrderLemmas.{length-orders}
use Rattle.dual_ascent.specs.LocalSearch.{least_beside}
use Rattle.dual_ascent.proofs.OwnParts.{seg_number}
use Rattle.dual_ascent.proofs.Meeting.{segments_improve}
use Rattle.dual_orders.specs.Solvers.{found_of}
use Rattle.dual_orders.proofs.Exchanging.{improved_is, least_lines}
use Rattle.dual_orders.proofs.OwnTables.{few_lines, reach_narrow}
use Rattle.dual_orders.proofs.Placing.{length_at}
use Rattle.dual_orders.proofs.local_search.improve_on.Goals as goal

pub find_beside-requires-clause-each : goal.find_beside-requires-clause-each
find_beside-requires-clause-each c = sym (length-orders c.args.part.now.problem.now.segs c.args.orders.now c.requires.orders)

pub order-requires : goal.order-requires
order-requires c =
    let p : ProblemParts = c.args.part.now.problem.now in
    let room = (c.find_beside.ensures.room c.args.s).found in
    let few = few_lines p.segs c.args.s (reach_narrow p c.requires.part.reach) in
    let same = ap length c.lines.ensures in
    omega (arith, room, few, same)

pub take_if_less-requires-clause-each : goal.take_if_less-requires-clause-each
take_if_less-requires-clause-each c = sym (length-orders c.args.part.now.problem.now.segs c.args.orders.now c.requires.orders)

pub take_if_less-requires-clause-lines : goal.take_if_less-requires-clause-lines
take_if_less-requires-clause-lines c =
    let p : ProblemParts = c.args.part.now.problem.now in
    let is : c.order.result.now ≡ unwrap_or (least_beside p c.args.orders.now (seg_number c.args.s)) (lines_on p.segs (seg_number c.args.s)) =
    c.order.ensures ∙ (ap (λ (l : List LineId). found_of c.find_beside.new.solver (length l)) c.lines.ensures ∙ c.find_beside.ensures.found) in
    ap length is ∙ (least_lines p c.args.orders.now (seg_number c.args.s) ∙ sym (length_at p.segs c.args.orders.now c.args.s c.requires.orders))

pub returns-clause-orders : goal.returns-clause-orders
returns-clause-orders c =
    let p : ProblemParts = c.args.part.now.problem.now in
    let is : c.order.result.now ≡ unwrap_or (least_beside p c.args.orders.now (seg_number c.args.s)) (lines_on p.segs (seg_number c.args.s)) =
    c.order.ensures ∙ (ap (λ (l : List LineId). found_of c.find_beside.new.solver (length l)) c.lines.ensures ∙ c.find_beside.ensures.found) in
    c.take_if_less.ensures.value ∙ improved_is p c.args.orders.now c.args.s c.order.result.now c.requires.part.fits.rising is

pub returns-clause-are : goal.returns-clause-are
returns-clause-are c =
    let p : ProblemParts = c.args.part.now.problem.now in
    let is : c.order.result.now ≡ unwrap_or (least_beside p c.args.orders.now (seg_number c.args.s)) (lines_on p.segs (seg_number c.args.s)) =
    c.order.ensures ∙ (ap (λ (l : List LineId). found_of c.find_beside.new.solver (length l)) c.lines.ensures ∙ c.find_beside.ensures.found) in
    subst (AreOrders p.segs) (sym (c.take_if_less.ensures.value ∙ improved_is p c.args.orders.now c.args.s c.order.result.now c.requires.part.fits.rising is))
    (segments_improve p (seg_number c.args.s ∷ []) c.args.orders.now c.requires.orders).0
