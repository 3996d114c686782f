use Rattle.std.specs.BinaryHeap.{IsHeap, heap_items}
use Rattle.net_paths.specs.Searching.{IsSearch, left_of, nothing, queue_cmp}
use Rattle.net_paths.proofs.search.search.Given as goal

abbrev pub invariant-loop-cost : goal.invariant-loop-cost
invariant-loop-cost l = record {
  order : IsHeap queue_cmp (heap_items l.queue);
  search : IsSearch l.corridor l.net l.to l.known (heap_items l.queue) nothing;
}

abbrev pub decreases-loop-cost : goal.decreases-loop-cost
decreases-loop-cost l = left_of l.known (heap_items l.queue)
