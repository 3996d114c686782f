use Rattle.std.proofs.Common.{◌≡◌, ◌∙◌, [], ap, get_or, map, arith}
use Rattle.std.proofs.lemmas.List.{map_push}
use Rattle.order_model.specs.Places.{tables_of}
use Rattle.order_model.proofs.OrderLemmas.{length-orders}
use Rattle.order_model.proofs.PrefixLemmas.{lines_at_segment}
use Rattle.order_model.proofs.PrefixMemory.{table_of}
use Rattle.order_model.proofs.PlaceCosts.{order_at, push_table}
use Rattle.order_model.proofs.places.places_of.Goals as goal

pub bounds-lists-s : goal.bounds-lists-s
bounds-lists-s c = omega (arith, length-orders c.args.segs.now c.args.lists.now c.requires.orders, c.loop-s-test.true)

pub places_in-requires-clause-order : goal.places_in-requires-clause-order
places_in-requires-clause-order c =
    let lines : c.as_slice-lines.result.now ≡ get_or c.args.segs.now c.loop-s.s [] =
    c.as_slice-lines.ensures ∙ lines_at_segment c.args.segs.now c.loop-s.s c.index-segs-s.result c.loop-s-test.true c.index-segs-s.is in
    let order : c.as_slice-order.result.now ≡ get_or c.args.lists.now c.loop-s.s [] =
    c.as_slice-order.ensures ∙ lines_at_segment c.args.lists.now c.loop-s.s c.index-lists-s.result (omega (arith, length-orders c.args.segs.now c.args.lists.now c.requires.orders, c.loop-s-test.true)) c.index-lists-s.is in
    rw (lines, order) (order_at c.args.segs.now c.args.lists.now c.loop-s.s c.requires.orders c.loop-s-test.true)

pub loop-s-preserved : goal.loop-s-preserved
loop-s-preserved c =
    let lines : c.as_slice-lines.result.now ≡ get_or c.args.segs.now c.loop-s.s [] =
    c.as_slice-lines.ensures ∙ lines_at_segment c.args.segs.now c.loop-s.s c.index-segs-s.result c.loop-s-test.true c.index-segs-s.is in
    let order : c.as_slice-order.result.now ≡ get_or c.args.lists.now c.loop-s.s [] =
    c.as_slice-order.ensures ∙ lines_at_segment c.args.lists.now c.loop-s.s c.index-lists-s.result (omega (arith, length-orders c.args.segs.now c.args.lists.now c.requires.orders, c.loop-s-test.true)) c.index-lists-s.is in
    push_table c.args.segs.now c.args.lists.now (tables_of c.loop-s.places.items) (tables_of c.push.new.self.items) c.loop-s.s c.in_ok-places_in.field-0.items c.as_slice-lines.result.now c.as_slice-order.result.now
    c.loop-s.invariant.0 c.loop-s.invariant.1 (ap (map table_of) c.in_ok-push.ensures.items ∙ map_push table_of c.loop-s.places.items c.in_ok-places_in.field-0) c.in_ok-places_in.ensures lines order
