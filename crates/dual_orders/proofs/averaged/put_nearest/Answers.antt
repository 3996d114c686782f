use Rattle.std.proofs.Common.{◌≡◌, ◌≤◌, List, length, All, sym, ◌∙◌, ap, subst, arith}
use Rattle.std.specs.Prelude.{Vec, slice_set}
use Rattle.std.specs.Global.{Global}
use Rattle.map_base.specs.declared.ids.LineId.{LineId}
use Rattle.order_model.specs.declared.problem.ProblemParts.{ProblemParts}
use Rattle.order_model.specs.Problems.{lines_on}
use Rattle.order_model.proofs.OrderLemmas.{length-orders}
use Rattle.least_orders.specs.OrderCosts.{summed_costs}
use Rattle.dual_shares.specs.CostRows.{Tell}
use Rattle.dual_ascent.specs.declared.pair_average.PairAverage.{PairAverage}
use Rattle.dual_ascent.specs.SegmentCosts.{distance_costs}
use Rattle.dual_ascent.specs.Averages.{averages_on, nearest_on}
use Rattle.dual_ascent.proofs.Meeting.{averaged_are_orders}
use Rattle.dual_ascent.proofs.OwnParts.{seg_number}
use Rattle.dual_rounds.specs.Ranges.{averages_of}
use Rattle.dual_rounds.proofs.SegmentLists.{average_item}
use Rattle.dual_orders.specs.SettledPairs.{pairs_of}
use Rattle.dual_orders.specs.Values.{IsOfTwo}
use Rattle.dual_orders.proofs.OwnTables.{few_lines, reach_narrow}
use Rattle.dual_orders.proofs.Deciding.{averages_of_two, few_averages}
use Rattle.dual_orders.proofs.Placing.{placed_length}
use Rattle.dual_orders.proofs.Telling.{neared}
use Rattle.dual_orders.proofs.averaged.put_nearest.Goals as goal

pub put_distances-requires-clause-few : goal.put_distances-requires-clause-few
put_distances-requires-clause-few c =
    subst (λ (l : List LineId). length l ≤ 16) (sym c.lines.ensures)
    (few_lines c.args.part.now.problem.now.segs c.args.s
    (reach_narrow c.args.part.now.problem.now c.requires.part.reach))

pub put_distances-requires-clause-pairs : goal.put_distances-requires-clause-pairs
put_distances-requires-clause-pairs c =
    let p : ProblemParts = c.args.part.now.problem.now in
    let here : c.as_slice.result.now ≡ averages_on (averages_of c.args.averages.now) (seg_number c.args.s) =
    c.as_slice.ensures.value
    ∙ (ap (λ (v : Vec PairAverage Global). v.items) c.index-averages-s.is ∙ average_item c.args.averages.now c.args.s
    c.index-averages-s.result (omega (arith, c.requires.known, c.requires.each))) in
    subst (λ (l : List LineId). All (IsOfTwo l) c.as_slice.result.now) (sym c.lines.ensures)
    (subst (All (IsOfTwo (lines_on p.segs (seg_number c.args.s)))) (sym here)
    (averages_of_two p (averages_of c.args.averages.now) c.args.s c.requires.part.fits.rising c.requires.pairs
    c.requires.known))

pub put_distances-requires-clause-few_pairs : goal.put_distances-requires-clause-few_pairs
put_distances-requires-clause-few_pairs c =
    let p : ProblemParts = c.args.part.now.problem.now in
    let here : c.as_slice.result.now ≡ averages_on (averages_of c.args.averages.now) (seg_number c.args.s) =
    c.as_slice.ensures.value
    ∙ (ap (λ (v : Vec PairAverage Global). v.items) c.index-averages-s.is ∙ average_item c.args.averages.now c.args.s
    c.index-averages-s.result (omega (arith, c.requires.known, c.requires.each))) in
    let same = ap length here in
    let few = few_averages p (averages_of c.args.averages.now) c.args.s c.requires.pairs c.requires.known
    (few_lines p.segs c.args.s (reach_narrow p c.requires.part.reach)) in
    omega (arith, same, few)

pub set_order-requires-clause-known : goal.set_order-requires-clause-known
set_order-requires-clause-known c =
    let each = length-orders c.args.part.now.problem.now.segs c.args.orders.now c.requires.orders in
    omega (arith, each, c.requires.known)

pub set_order-requires-clause-same : goal.set_order-requires-clause-same
set_order-requires-clause-same c =
    let p : ProblemParts = c.args.part.now.problem.now in
    let here : c.as_slice.result.now ≡ averages_on (averages_of c.args.averages.now) (seg_number c.args.s) =
    c.as_slice.ensures.value
    ∙ (ap (λ (v : Vec PairAverage Global). v.items) c.index-averages-s.is ∙ average_item c.args.averages.now c.args.s
    c.index-averages-s.result (omega (arith, c.requires.known, c.requires.each))) in
    let told : Tell (lines_on p.segs (seg_number c.args.s))
    (summed_costs distance_costs (averages_on (averages_of c.args.averages.now) (seg_number c.args.s)))
    c.put_distances.new.rows =
    subst (λ (l : List LineId). Tell l
    (summed_costs distance_costs (averages_on (averages_of c.args.averages.now) (seg_number c.args.s)))
    c.put_distances.new.rows) c.lines.ensures
    (subst (λ (xs : List PairAverage). Tell c.lines.result.now (summed_costs distance_costs xs)
    c.put_distances.new.rows) here c.put_distances.ensures.told) in
    let is : c.order.result.now ≡ nearest_on p (pairs_of c.args.settled.now) (averages_of c.args.averages.now)
    (seg_number c.args.s) =
    neared p c.args.settled.now (seg_number c.args.s) c.requires.part.fits.rising c.requires.part.fits.terms
    c.requires.settled (averages_of c.args.averages.now) c.lines-lines.result.now c.order.result.now
    c.put_distances.new.rows
    c.put_ahead.new.solver c.solve.new.self c.lines-lines.ensures
    (averages_of_two p (averages_of c.args.averages.now) c.args.s c.requires.part.fits.rising c.requires.pairs
    c.requires.known) c.put_ahead.ensures.rows told
    c.put_ahead.ensures.told c.solve.ensures.found c.order.ensures in
    placed_length p.segs c.args.orders.now
    (nearest_on p (pairs_of c.args.settled.now) (averages_of c.args.averages.now)) c.args.s c.order.result.now
    (averaged_are_orders p (pairs_of c.args.settled.now) (averages_of c.args.averages.now)) c.requires.orders
    c.requires.known is

pub returns-clause-orders : goal.returns-clause-orders
returns-clause-orders c =
    let p : ProblemParts = c.args.part.now.problem.now in
    let here : c.as_slice.result.now ≡ averages_on (averages_of c.args.averages.now) (seg_number c.args.s) =
    c.as_slice.ensures.value
    ∙ (ap (λ (v : Vec PairAverage Global). v.items) c.index-averages-s.is ∙ average_item c.args.averages.now c.args.s
    c.index-averages-s.result (omega (arith, c.requires.known, c.requires.each))) in
    let told : Tell (lines_on p.segs (seg_number c.args.s))
    (summed_costs distance_costs (averages_on (averages_of c.args.averages.now) (seg_number c.args.s)))
    c.put_distances.new.rows =
    subst (λ (l : List LineId). Tell l
    (summed_costs distance_costs (averages_on (averages_of c.args.averages.now) (seg_number c.args.s)))
    c.put_distances.new.rows) c.lines.ensures
    (subst (λ (xs : List PairAverage). Tell c.lines.result.now (summed_costs distance_costs xs)
    c.put_distances.new.rows) here c.put_distances.ensures.told) in
    let is : c.order.result.now ≡ nearest_on p (pairs_of c.args.settled.now) (averages_of c.args.averages.now)
    (seg_number c.args.s) =
    neared p c.args.settled.now (seg_number c.args.s) c.requires.part.fits.rising c.requires.part.fits.terms
    c.requires.settled (averages_of c.args.averages.now) c.lines-lines.result.now c.order.result.now
    c.put_distances.new.rows
    c.put_ahead.new.solver c.solve.new.self c.lines-lines.ensures
    (averages_of_two p (averages_of c.args.averages.now) c.args.s c.requires.part.fits.rising c.requires.pairs
    c.requires.known) c.put_ahead.ensures.rows told
    c.put_ahead.ensures.told c.solve.ensures.found c.order.ensures in
    c.set_order.ensures ∙ ap (slice_set c.args.orders.now c.args.s) is
