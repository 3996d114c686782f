use Rattle.std.proofs.Common.{◌≡◌, ◌≤◌, ◌<◌, ◌*◌, ℕ, Bool, take, length}
use Rattle.std.specs.List.{sum_by}
use Rattle.whole_sums.specs.Sums.{int_sum}
use Rattle.order_check.specs.Slots.{cost_at}
use Rattle.order_check.specs.Counting.{added_by, decided_of, shifted, least_sum}
use Rattle.order_check.proofs.slot_costs.count.Given as goal

abbrev pub invariant-loop-i : goal.invariant-loop-i
invariant-loop-i l = record {
  decided : l.decided ≡ sum_by (decided_of l.problem.segs l.prefix.placed) (take l.i l.terms);
  most : l.decided ≤ 256000 * l.i;
  each : length l.costs ≡ length l.fn.costs;
  least : l.least ≡ least_sum l.costs;
  slots : (k : ℕ) → k < length l.costs → (x : Bool)
      → cost_at l.costs k x ≡ shifted l.off (cost_at l.fn.costs k x) (int_sum (added_by l.problem.segs l.prefix.placed k x) (take l.i l.terms));
}
