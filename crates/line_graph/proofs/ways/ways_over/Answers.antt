use Rattle.std.proofs.Common.{◌∙◌, refl, ap, below_more}
use Rattle.way_network.proofs.NodeLemmas.{value_more}
use Rattle.line_graph.specs.StretchTables.{way_at, way_along, stretch_at, corridor_at}
use Rattle.line_graph.specs.Premises.{IsLed}
use Rattle.line_graph.proofs.WaySteps.{led_same}
use Rattle.line_graph.proofs.ways.ways_over.Goals as goal

pub loop-place-preserved : goal.loop-place-preserved
loop-place-preserved c = record {
  ways = value_more (way_at c.args.near c.args.net.now c.args.table.now) c.loop-place.place c.loop-place.place c.loop-place.ways.items c.push.new.self.items c.in_ok-way.way refl
      (c.in_ok-way.ensures.way ∙ ap (λ s. way_along c.args.near c.args.net.now s c.corridor.result.now) c.stretch.ensures
      ∙ ap (λ corridor. way_along c.args.near c.args.net.now (stretch_at c.args.table.now c.loop-place.place) corridor) c.corridor.ensures)
      c.loop-place.invariant.ways c.in_ok-push.ensures.items;
  led = below_more (λ k. IsLed c.args.near c.args.net.now (stretch_at c.args.table.now k) (corridor_at c.args.table.now k)) c.loop-place.place c.loop-place.invariant.led
      (led_same c.args.near c.args.net.now c.stretch.result (stretch_at c.args.table.now c.loop-place.place) c.corridor.result.now (corridor_at c.args.table.now c.loop-place.place) c.stretch.ensures c.corridor.ensures
      c.in_ok-way.ensures.led);
}
