use Rattle.std.proofs.Common.{◌≡◌, ◌≤◌, ◌+◌, drop, reverse, map, length}
use Rattle.std.specs.Vec.{vec_len, vec_capacity}
use Rattle.pair_bounds.specs.declared.slots.Slot.{Slot}
use Rattle.pair_bounds.proofs.one_pair.push_slots.Given as goal

abbrev pub invariant-loop-left : goal.invariant-loop-left
invariant-loop-left l = record {
  items : l.waiting.items ≡ reverse (map (λ (s : Slot). s.seg) (drop l.left l.slots));
  few : vec_len l.waiting + l.left ≤ length l.slots;
  within : l.left ≤ length l.slots;
  room : vec_capacity l.fn.waiting ≤ vec_capacity l.waiting;
}

abbrev pub decreases-loop-left : goal.decreases-loop-left
decreases-loop-left l = l.left
