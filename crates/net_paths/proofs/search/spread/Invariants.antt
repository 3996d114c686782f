use Rattle.std.proofs.Common.{◌≡◌, ℕ, length}
use Rattle.std.specs.BinaryHeap.{IsHeap, heap_items}
use Rattle.net_paths.specs.Searching.{IsSearch, is_point_at, left_of, queue_cmp}
use Rattle.net_paths.proofs.Spreading.{IsSpreading}
use Rattle.net_paths.proofs.search.spread.Given as goal

abbrev pub invariant-loop-next : goal.invariant-loop-next
invariant-loop-next l = record {
  each : length l.known ≡ length l.net.points;
  order : IsHeap queue_cmp (heap_items l.queue);
  spreading :
      (to : ℕ) → IsSearch l.corridor l.net to l.initial.known (heap_items l.initial.queue) (is_point_at l.at l.cost) →
      IsSpreading l.corridor l.net to l.at l.cost l.next-items l.next-index (left_of l.initial.known (heap_items l.initial.queue)) l.known (heap_items l.queue);
}
