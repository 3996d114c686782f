use Rattle.std.proofs.Common.{◌≡◌, ◌+◌, ◌<◌, [], length, get_or, refl, sym, ◌∙◌, ap, subst, arith}
use Rattle.std.proofs.lemmas.List.{get_or_default}
use Rattle.order_model.proofs.PrefixLemmas.{lines_at_segment}
use Rattle.dual_rounds.proofs.Filling.{IsFilledTo, fill_begins, fill_goes_on, fill_ends}
use Rattle.dual_rounds.proofs.SegmentLists.{copied_by, lengths_each, lengths_at}
use Rattle.dual_rounds.proofs.line_order.copy_orders.Goals as goal

pub loop-s-init : goal.loop-s-init
loop-s-init c = fill_begins (copied_by c.args.from.now) [] c.args.to.now

pub set_order-requires-clause-known : goal.set_order-requires-clause-known
set_order-requires-clause-known c =
    let each = lengths_each c.args.from.now c.args.to.now c.requires in
    let same = c.loop-s.invariant.each in
    omega (arith, each, same, c.loop-s-test.true)

pub set_order-requires-clause-same : goal.set_order-requires-clause-same
set_order-requires-clause-same c =
    let each = lengths_each c.args.from.now c.args.to.now c.requires in
    let same = c.loop-s.invariant.each in
    let within : c.loop-s.s < length c.loop-s.to = omega (arith, each, same, c.loop-s-test.true) in
    let order : c.as_slice.result.now ≡ get_or c.args.from.now c.loop-s.s [] = c.as_slice.ensures ∙ lines_at_segment c.args.from.now c.loop-s.s c.index-from-s.result c.loop-s-test.true c.index-from-s.is in
    ap length order
    ∙ (lengths_at c.args.from.now c.args.to.now c.loop-s.s c.requires
    ∙ sym (ap length (get_or_default c.loop-s.to c.loop-s.s c.as_slice.result.now [] within ∙ c.loop-s.invariant.rest c.loop-s.s (omega arith))))

pub loop-s-preserved : goal.loop-s-preserved
loop-s-preserved c =
    let each = lengths_each c.args.from.now c.args.to.now c.requires in
    let order : c.as_slice.result.now ≡ get_or c.args.from.now c.loop-s.s [] = c.as_slice.ensures ∙ lines_at_segment c.args.from.now c.loop-s.s c.index-from-s.result c.loop-s-test.true c.index-from-s.is in
    subst (IsFilledTo (copied_by c.args.from.now) [] (c.loop-s.s + 1) c.args.to.now) (sym c.set_order.ensures)
    (fill_goes_on (copied_by c.args.from.now) [] c.loop-s.s c.args.to.now c.loop-s.to c.as_slice.result.now c.loop-s.invariant (omega (arith, each, c.loop-s-test.true)) order)

pub returns : goal.returns
returns c =
    let each = lengths_each c.args.from.now c.args.to.now c.requires in
    fill_ends (copied_by c.args.from.now) [] c.loop-s.s c.args.to.now c.loop-s.to c.args.from.now c.loop-s.invariant
    (omega (arith, each, c.loop-s-test.false)) each (λ i below. refl)
