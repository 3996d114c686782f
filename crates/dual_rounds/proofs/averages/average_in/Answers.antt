use Rattle.std.proofs.Common.{◌≡◌, ◌<◌, ◌+◌, [], length, map, get_or, sym, ◌∙◌, ap, subst, arith}
use Rattle.order_model.proofs.PrefixLemmas.{lines_at_segment}
use Rattle.dual_ascent.specs.Averages.{with_order}
use Rattle.dual_rounds.specs.Ranges.{averages_of}
use Rattle.dual_rounds.proofs.Filling.{IsFilledTo, fill_begins, fill_goes_on, fill_ends}
use Rattle.dual_rounds.proofs.SegmentLists.{averages_by, averages_at, length_averages, length_of_averages}
use Rattle.dual_rounds.proofs.averages.average_in.Goals as goal

pub loop-s-init : goal.loop-s-init
loop-s-init c = (fill_begins (averages_by c.args.round c.args.orders.now) [] (averages_of c.args.averages.now), c.requires.within)

pub loop-s-preserved : goal.loop-s-preserved
loop-s-preserved c =
    let i = c.loop-s.s in
    let same = ap length c.segs-s-end.ensures.lists in
    let each = length_of_averages c.args.averages.now in
    let known : i < length c.args.orders.now = omega (arith, same, c.loop-s-test.true, c.requires.orders) in
    let within : i < length (averages_of c.args.averages.now) = omega (arith, same, each, c.loop-s-test.true, c.requires.each) in
    let order : c.as_slice.result.now ≡ get_or c.args.orders.now i [] = c.as_slice.ensures ∙ lines_at_segment c.args.orders.now i c.index-orders-s.result known c.index-orders-s.is in
    let now = averages_of c.loop-s.averages in
    let made = map (with_order c.args.round c.as_slice.result.now) (get_or now i []) in
    let is : made ≡ averages_by c.args.round c.args.orders.now i (get_or (averages_of c.args.averages.now) i []) =
    ap (λ o. map (with_order c.args.round o) (get_or now i [])) order
    ∙ ap (map (with_order c.args.round (get_or c.args.orders.now i []))) (c.loop-s.invariant.0.rest i (omega arith)) in (
      subst (IsFilledTo (averages_by c.args.round c.args.orders.now) [] (i + 1) (averages_of c.args.averages.now)) (sym c.average_at.ensures.value)
          (fill_goes_on (averages_by c.args.round c.args.orders.now) [] i (averages_of c.args.averages.now) now made c.loop-s.invariant.0 within is),
      c.average_at.ensures.within,
    )

pub returns-clause-value : goal.returns-clause-value
returns-clause-value c =
    let same = ap length c.segs-s-end.ensures.lists in
    let each = length_of_averages c.args.averages.now in
    let made = length_averages c.args.problem.now c.args.round c.args.orders.now (averages_of c.args.averages.now) in
    fill_ends (averages_by c.args.round c.args.orders.now) [] c.loop-s.s (averages_of c.args.averages.now) (averages_of c.loop-s.averages) _ c.loop-s.invariant.0
    (omega (arith, same, each, c.loop-s-test.false, c.requires.each)) (omega (arith, made, each, c.requires.each))
    (λ i below. averages_at c.args.problem.now c.args.round c.args.orders.now (averages_of c.args.averages.now) i (omega (arith, below, each, c.requires.each)))
