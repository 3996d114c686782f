use Rattle.std.proofs.Common.{◌≡◌, ◌≤◌, take}
use Rattle.std.specs.Vec.{vec_len, vec_capacity}
use Rattle.order_bound.specs.Pairs.{is_open_on}
use Rattle.pair_bounds.specs.Slots.{slots_of}
use Rattle.std.specs.List.{filter}
use Rattle.pair_bounds.proofs.opening.open_slots.Given as goal

abbrev pub invariant-loop-seg : goal.invariant-loop-seg
invariant-loop-seg l = record {
  items : l.slots.items ≡ slots_of (λ s. s) (λ s x. 0) (filter (is_open_on l.problem.segs l.prefix.placed l.pair) (take l.seg-index l.part));
  few : vec_len l.slots ≤ l.seg-index;
  room : vec_capacity l.initial.slots ≤ vec_capacity l.slots;
}
