use Rattle.std.proofs.Common.{◌≡◌, ◌≤◌, ◌+◌, ◌++◌, take}
use Rattle.std.specs.Vec.{vec_len, vec_capacity}
use Rattle.order_bound.specs.CanonicalPrices.{ends_at, child_link}
use Rattle.pair_bounds.proofs.WalkSteps.{made}
use Rattle.pair_bounds.proofs.walking.push_children.Given as goal

abbrev pub invariant-loop-link : goal.invariant-loop-link
invariant-loop-link l = record {
  items : l.children.items ≡ l.initial.children.items ++ made (child_link l.parent) (ends_at l.parent) (take l.link-index l.links);
  few : vec_len l.children ≤ vec_len l.initial.children + l.link-index;
  room : vec_capacity l.initial.children ≤ vec_capacity l.children;
}
