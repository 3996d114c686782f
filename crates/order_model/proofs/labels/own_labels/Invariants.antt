use Rattle.std.proofs.Common.{◌≡◌, ℕ, ◌<◌, length, get_or}
use Rattle.order_model.proofs.labels.own_labels.Given as goal

abbrev pub invariant-loop-s : goal.invariant-loop-s
invariant-loop-s l = (length l.labels.items ≡ l.s) × ((t : ℕ) → t < l.s → get_or l.labels.items t 0 ≡ t)
