use Rattle.std.proofs.Common.{◌≡◌, ◌-◌, ◌≤◌, max, length}
use Rattle.ordered_entries.specs.Order.{least_tie}
use Rattle.ordered_entries.proofs.repeats.first_repeat.Given as goal

abbrev pub invariant-loop-at : goal.invariant-loop-at
invariant-loop-at l = record {
  least : l.least ≡ least_tie l.entries l.order (l.at - 1);
  upto : l.at ≤ max 1 (length l.order);
}
