use Rattle.std.proofs.Common.{◌≡◌, ◌<◌, ℕ, Bool}
use Rattle.std.specs.Prelude.{pos}
use Rattle.order_check.specs.Slots.{cost_at}
use Rattle.order_check.proofs.slot_costs.clear.Given as goal

abbrev pub invariant-loop-k : goal.invariant-loop-k
invariant-loop-k l = (j : ℕ) (x : Bool) → j < l.k → cost_at l.costs j x ≡ pos 0
