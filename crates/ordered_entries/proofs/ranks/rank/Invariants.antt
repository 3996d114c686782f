use Rattle.std.proofs.Common.{◌-◌}
use Rattle.ordered_entries.specs.Order.{IsBetween}
use Rattle.ordered_entries.proofs.ranks.rank.Given as goal

abbrev pub invariant-loop-low : goal.invariant-loop-low
invariant-loop-low l = IsBetween l.entries l.order l.key l.low l.high

abbrev pub decreases-loop-low : goal.decreases-loop-low
decreases-loop-low l = l.high - l.low
