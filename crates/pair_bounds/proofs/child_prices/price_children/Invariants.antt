use Rattle.std.proofs.Common.{◌≡◌, ◌<◌, ◌≤◌, ◌+◌, ◌-◌, ◌*◌, ℕ, length}
use Rattle.std.specs.List.{All}
use Rattle.std.specs.Vec.{vec_len, vec_capacity}
use Rattle.order_bound.specs.declared.pairs.ChildLink.{ChildLink}
use Rattle.pair_bounds.specs.Slots.{with_children, IsSmall}
use Rattle.pair_bounds.specs.PriceNotes.{price_noted, price_over, priced_in}
use Rattle.pair_bounds.proofs.child_prices.price_children.Given as goal

abbrev pub invariant-loop-child : goal.invariant-loop-child
invariant-loop-child l = record {
  slots : with_children l.children.items l.slots ≡ with_children l.initial.children.items l.initial.slots;
  each : length l.noted.prices.items ≡ length l.initial.noted.prices.items;
  noted : (k : ℕ) → k < length l.initial.noted.prices.items → price_over (priced_in l.children.items l.slots) (price_noted l.noted.prices.items k) k ≡ price_over (priced_in l.initial.children.items l.initial.slots) (price_noted l.initial.noted.prices.items k) k;
  small : All (IsSmall (2199023255552 + 524288 * (vec_len l.initial.children - vec_len l.children))) l.slots;
  light : All (λ (c : ChildLink). c.link.weight ≤ 256000) l.children.items;
  few : vec_len l.children ≤ vec_len l.initial.children;
  room : vec_capacity l.initial.children ≤ vec_capacity l.children;
}

abbrev pub decreases-loop-child : goal.decreases-loop-child
decreases-loop-child l = vec_len l.children
