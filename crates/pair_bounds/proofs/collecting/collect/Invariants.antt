use Rattle.std.proofs.Common.{◌≤◌, ◌*◌, take}
use Rattle.std.specs.Vec.{vec_len, vec_capacity}
use Rattle.order_bound.specs.Pairs.{open_segments}
use Rattle.pair_bounds.specs.Slots.{IsCollected}
use Rattle.pair_bounds.proofs.collecting.collect.Given as goal

abbrev pub invariant-loop-number : goal.invariant-loop-number
invariant-loop-number l = record {
  collected : IsCollected l.problem.segs l.prefix.placed l.fn.pair (open_segments l.problem.segs l.prefix.placed l.part l.fn.pair) (take l.number-index l.terms) l.base l.slots.items l.links.items;
  few : vec_len l.links ≤ l.number-index;
  small : l.base ≤ 4294967296 * l.number-index;
  slots_room : vec_capacity l.fn.slots ≤ vec_capacity l.slots;
  links_room : vec_capacity l.fn.links ≤ vec_capacity l.links;
}
