use Rattle.std.proofs.Common.{◌≡◌, refl, sym, ◌∙◌, subst, ℕ, ◌+◌, ◌<◌, length, get_or}
use Rattle.std.specs.BinaryHeap.{heap_items}
use Rattle.net_paths.specs.Searching.{cost_along, left_of}
use Rattle.net_paths.proofs.CostTables.{cost_at}
use Rattle.net_paths.proofs.Spreading.{spreading_begins, spreading_goes_on, spreading_ends, edge_in_range, length-lowered}
use Rattle.net_paths.proofs.search.spread.Goals as goal

pub point-requires-in-loop-next : goal.point-requires-in-loop-next
point-requires-in-loop-next c =
    edge_in_range c.args.net.now c.requires.kept c.args.at c.loop-next.next-index (get_or c.edges_of-next-items.result.now c.loop-next.next-index 0) c.edges_of-next-items.result.now
    c.edges_of-next-items.ensures c.loop-next-test.true refl

pub lower-requires-clause-in_range : goal.lower-requires-clause-in_range
lower-requires-clause-in_range c =
    subst (λ (n : ℕ). get_or c.edges_of-next-items.result.now c.loop-next.next-index 0 < n) (sym c.loop-next.invariant.each)
    (let inside : get_or c.edges_of-next-items.result.now c.loop-next.next-index 0 < length c.args.net.now.points =
    edge_in_range c.args.net.now c.requires.kept c.args.at c.loop-next.next-index (get_or c.edges_of-next-items.result.now c.loop-next.next-index 0) c.edges_of-next-items.result.now
    c.edges_of-next-items.ensures c.loop-next-test.true refl in
    inside)

step_cost : (c : goal.In_ok-lower) → c.cost_between-step.result ≡ cost_along c.args.corridor.now c.args.net.now.points (get_or c.edges_of-next-items.result.now c.loop-next.next-index 0) c.args.at
step_cost c =
    let next = get_or c.edges_of-next-items.result.now c.loop-next.next-index 0 in
    cost_at c.args.corridor.now c.args.net.now next c.args.at c.point-in-loop-next.result c.place_of-here.result.point c.cost_between-step.result
    c.point-in-loop-next.ensures.value (c.place_of-here.ensures.point ∙ c.point.ensures.value) c.cost_between-step.ensures.back

pub loop-next-init : goal.loop-next-init
loop-next-init c = record {
  each = c.requires.cost_each;
  order = c.requires.order;
  spreading = λ to s. spreading_begins c.args.corridor.now c.args.net.now to c.args.at c.args.cost c.edges_of-next-items.result.now c.args.known.now (heap_items c.args.queue.now) s c.requires.known;
}

pub loop-next-preserved : goal.loop-next-preserved
loop-next-preserved c = record {
  each = length-lowered c.loop-next.known c.lower.new.known (heap_items c.loop-next.queue) (heap_items c.lower.new.queue) (get_or c.edges_of-next-items.result.now c.loop-next.next-index 0) (c.args.cost + c.cost_between-step.result) c.in_ok-lower.ensures.lowered ∙ c.loop-next.invariant.each;
  order = c.in_ok-lower.ensures.order;
  spreading = λ to s.
      spreading_goes_on c.args.corridor.now c.args.net.now to c.args.at c.args.cost c.edges_of-next-items.result.now c.loop-next.next-index (left_of c.args.known.now (heap_items c.args.queue.now))
      c.loop-next.known c.lower.new.known (heap_items c.loop-next.queue) (heap_items c.lower.new.queue) (get_or c.edges_of-next-items.result.now c.loop-next.next-index 0) c.cost_between-step.result
      c.requires.kept c.edges_of-next-items.ensures c.loop-next-test.true refl (step_cost c) c.cost_between-step.ensures.within (c.loop-next.invariant.spreading to s)
      c.in_ok-lower.ensures.lowered;
}

pub returns-clause-spread : goal.returns-clause-spread
returns-clause-spread c = λ to s.
    let spreading = c.loop-next.invariant.spreading to s in (
      spreading_ends c.args.corridor.now c.args.net.now to c.args.at c.args.cost c.edges_of-next-items.result.now c.loop-next.next-index (left_of c.args.known.now (heap_items c.args.queue.now))
          c.loop-next.known (heap_items c.loop-next.queue) c.requires.kept c.edges_of-next-items.ensures c.loop-next-test.false spreading,
      spreading.left_over,
    )
