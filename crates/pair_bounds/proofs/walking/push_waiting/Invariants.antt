use Rattle.std.proofs.Common.{◌≡◌, ◌≤◌, ◌+◌, ◌++◌, drop, reverse, length}
use Rattle.std.specs.Vec.{vec_len, vec_capacity}
use Rattle.order_bound.specs.CanonicalPrices.{ends_at, far_end}
use Rattle.pair_bounds.proofs.WalkSteps.{made}
use Rattle.pair_bounds.proofs.walking.push_waiting.Given as goal

abbrev pub invariant-loop-left : goal.invariant-loop-left
invariant-loop-left l = record {
  items : l.waiting.items ≡ l.initial.waiting.items ++ reverse (made (far_end l.parent) (ends_at l.parent) (drop l.left l.links));
  few : vec_len l.waiting + l.left ≤ vec_len l.initial.waiting + length l.links;
  within : l.left ≤ length l.links;
  room : vec_capacity l.initial.waiting ≤ vec_capacity l.waiting;
}

abbrev pub decreases-loop-left : goal.decreases-loop-left
decreases-loop-left l = l.left
