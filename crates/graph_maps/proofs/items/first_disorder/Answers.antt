use Rattle.std.proofs.Common.{◌<◌, ◌≤◌, ◌+◌, ◌∙◌, ap, sym, subst, Bool, cond, Some, Option, List, [], length, drop, arith}
use Rattle.std.proofs.lemmas.List.{at_drop_all}
use Rattle.std.proofs.lemmas.Option.{get_or_from_slice_get}
use Rattle.map_base.specs.declared.ids.SegId.{SegId}
use Rattle.map_base.specs.declared.ids.LineId.{LineId}
use Rattle.graph_core.specs.Consistent.{AreRising}
use Rattle.graph_maps.specs.Checking.{first_disorder}
use Rattle.graph_maps.proofs.HeldOrders.{disorder_at}
use Rattle.graph_maps.proofs.items.first_disorder.Goals as goal

pub is_order-requires : goal.is_order-requires
is_order-requires c =
    let lines = c.args.graph.now.lines in
    let below : c.loop-s.s < length lines = omega (arith, c.requires.fits.lines_each, c.segs-s-end.ensures, c.loop-s-test.true) in
    subst AreRising (get_or_from_slice_get lines c.loop-s.s c.lines.result.now [] c.lines.ensures) (c.requires.fits.lines c.loop-s.s [] below).1

pub returns-then-not-is_order : goal.returns-then-not-is_order
returns-then-not-is_order c =
    let s = c.loop-s.s in
    let below : s < length c.args.orders.now = omega (arith, c.requires.each, c.segs-s-end.ensures, c.loop-s-test.true) in
    let next = first_disorder (s + 1) (drop (s + 1) c.args.graph.now.lines) (drop (s + 1) c.args.orders.now) in
    let step = disorder_at c.args.graph.now.lines c.args.orders.now s c.lines.result.now c.as_slice.result.now c.index-orders-s.result c.lines.ensures (c.as_slice.ensures ∙ c.index-orders-s.is) below in
    let here : Option SegId = Some (record { 0 = s }) in
    sym (step ∙ ap (λ (b : Bool). cond b next here) (sym c.is_order.ensures ∙ c.if-not-is_order.true)) ∙ c.loop-s.invariant

pub loop-s-preserved : goal.loop-s-preserved
loop-s-preserved c =
    let s = c.loop-s.s in
    let below : s < length c.args.orders.now = omega (arith, c.requires.each, c.segs-s-end.ensures, c.loop-s-test.true) in
    let next = first_disorder (s + 1) (drop (s + 1) c.args.graph.now.lines) (drop (s + 1) c.args.orders.now) in
    let step = disorder_at c.args.graph.now.lines c.args.orders.now s c.lines.result.now c.as_slice.result.now c.index-orders-s.result c.lines.ensures (c.as_slice.ensures ∙ c.index-orders-s.is) below in
    let here : Option SegId = Some (record { 0 = s }) in
    sym (step ∙ ap (λ (b : Bool). cond b next here) (sym c.is_order.ensures ∙ c.if-not-is_order.false)) ∙ c.loop-s.invariant

pub returns : goal.returns
returns c =
    let lines = c.args.graph.now.lines in
    let over : length lines ≤ c.loop-s.s = omega (arith, c.requires.fits.lines_each, c.segs-s-end.ensures, c.loop-s-test.false) in
    sym (at_drop_all (λ (rest : List (List LineId)). first_disorder c.loop-s.s rest (drop c.loop-s.s c.args.orders.now)) lines c.loop-s.s over) ∙ c.loop-s.invariant
