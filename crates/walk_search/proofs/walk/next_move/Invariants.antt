use Rattle.std.proofs.Common.{ℕ, ◌<◌}
use Rattle.walk_search.specs.Asking.{question}
use Rattle.walk_search.specs.Walked.{KeepsCost}
use Rattle.walk_search.proofs.walk.next_move.Given as goal

abbrev pub invariant-loop-label : goal.invariant-loop-label
invariant-loop-label l = (i to : ℕ) → i < l.label → KeepsCost (question l.asked) l.known l.at i to → ⊥
