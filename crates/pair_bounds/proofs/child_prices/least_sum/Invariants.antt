use Rattle.std.proofs.Common.{◌≡◌, ◌*◌, take}
use Rattle.std.specs.Prelude.{pos, ◌-ℤ◌, ◌≤ℤ◌}
use Rattle.whole_sums.specs.Sums.{int_sum}
use Rattle.pair_bounds.specs.Slots.{slot_least}
use Rattle.pair_bounds.proofs.child_prices.least_sum.Given as goal

abbrev pub invariant-loop-slot : goal.invariant-loop-slot
invariant-loop-slot l = record {
  total : l.total ≡ int_sum slot_least (take l.slot-index l.slots);
  low : (pos 0 -ℤ pos (8796093022208 * l.slot-index)) ≤ℤ l.total;
  high : l.total ≤ℤ pos (8796093022208 * l.slot-index);
}
