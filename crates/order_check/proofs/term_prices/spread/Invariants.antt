use Rattle.std.proofs.Common.{◌≡◌, ◌<◌, ℕ, Bool, take, length}
use Rattle.whole_sums.specs.Sums.{int_sum}
use Rattle.order_check.specs.Slots.{cost_at}
use Rattle.order_check.specs.Counting.{shifted, least_sum}
use Rattle.order_check.specs.Pricing.{price_on}
use Rattle.order_check.proofs.term_prices.spread.Given as goal

abbrev pub invariant-loop-j : goal.invariant-loop-j
invariant-loop-j l = record {
  each : length l.costs ≡ length l.fn.costs;
  least : l.least ≡ least_sum l.costs;
  slots : (k : ℕ) → k < length l.costs → (x : Bool) → cost_at l.costs k x ≡ shifted l.off (cost_at l.fn.costs k x) (int_sum (price_on l.terms k x) (take l.j l.list));
}
