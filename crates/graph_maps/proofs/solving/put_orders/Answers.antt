use Rattle.std.proofs.Common.{◌≤◌, ◌-◌, ◌∙◌, sym, ap, arith, length}
use Rattle.std.proofs.Math.ListN.{length-set}
use Rattle.graph_maps.proofs.SolveLemmas.{put_more, popped}
use Rattle.graph_maps.proofs.solving.put_orders.Goals as goal

pub loop-i-preserved : goal.loop-i-preserved
loop-i-preserved c =
    let order = c.in-Some.order in
    let within : c.loop-i.i ≤ length c.args.lists.items = omega (arith, c.requires.each, c.loop-i.auto.i) in
    let some = c.loop-i-test.true in
    let last = popped c.args.lists.items c.loop-i.lists.items c.pop.new.self.items c.loop-i.i c.loop-i.lists.len order c.loop-i.invariant.left c.loop-i.lists.ok.0 some within
    (sym c.in-Some.is ∙ c.pop.ensures.value order (omega (arith, c.in-Some.ensures.cases))) c.pop.ensures.rest in
    record {
      put = put_more c.args.part.now c.args.lists.items c.args.orders.now.items c.loop-i.orders.items c.put_order.new.orders.items c.loop-i.i (c.loop-i.i - 1) _ order
          (omega (arith, some)) (omega (arith, some, c.loop-i.auto.i)) (omega (arith, some, within)) last.0 c.loop-i.invariant.put c.put_order.ensures;
      left = last.1;
      each = ap length c.put_order.ensures ∙ length-set c.loop-i.orders.items _ order ∙ c.loop-i.invariant.each;
    }
