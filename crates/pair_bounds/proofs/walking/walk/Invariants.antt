use Rattle.std.proofs.Common.{◌≡◌, ◌≤◌, ◌+◌, ◌++◌, reverse, length}
use Rattle.std.specs.Vec.{vec_len, vec_capacity}
use Rattle.order_bound.specs.CanonicalPrices.{walked}
use Rattle.pair_bounds.proofs.walking.walk.Given as goal

abbrev pub invariant-loop-parent : goal.invariant-loop-parent
invariant-loop-parent l = record {
  items : l.children.items ++ walked (length l.waiting.items + length l.links.items) (reverse l.waiting.items) l.links.items
      ≡ l.initial.children.items ++ walked (length l.initial.waiting.items + length l.initial.links.items) (reverse l.initial.waiting.items) l.initial.links.items;
  waiting : vec_len l.waiting + vec_len l.links ≤ vec_capacity l.waiting;
  children : vec_len l.children + vec_len l.links ≤ vec_capacity l.children;
  waiting_room : vec_capacity l.initial.waiting ≤ vec_capacity l.waiting;
  links_room : vec_capacity l.initial.links ≤ vec_capacity l.links;
  children_room : vec_capacity l.initial.children ≤ vec_capacity l.children;
}

abbrev pub decreases-loop-parent : goal.decreases-loop-parent
decreases-loop-parent l = vec_len l.waiting + vec_len l.links
