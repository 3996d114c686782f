use Rattle.std.proofs.Common.{ℕ, ◌<◌, ◌≤◌, [], length, get_or}
use Rattle.dual_orders.proofs.solver.widest.Given as goal

abbrev pub invariant-loop-lines : goal.invariant-loop-lines
invariant-loop-lines l = ((k : ℕ) → k < l.lines-index → length (get_or l.problem.segs k []) ≤ l.most) × ((m : ℕ) → ((k : ℕ) → length (get_or l.problem.segs k []) ≤ m) → l.most ≤ m)
