use Rattle.std.proofs.Common.{ℕ, ◌<◌, get_or}
use Rattle.net_paths.specs.Walking.{KeepsCost}
use Rattle.net_paths.proofs.walk.next_point.Given as goal

abbrev pub invariant-loop-next : goal.invariant-loop-next
invariant-loop-next l = (i : ℕ) → i < l.next-index → KeepsCost l.corridor l.net l.known l.at (get_or l.next-items i 0) → ⊥
