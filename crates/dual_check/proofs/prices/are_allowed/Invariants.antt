use Rattle.std.proofs.Common.{◌≡◌, true, take}
use Rattle.dual_bound.specs.Values.{are_allowed}
use Rattle.dual_check.specs.Asking.{question_of}
use Rattle.dual_check.proofs.prices.are_allowed.Given as goal

abbrev pub invariant-loop-entry : goal.invariant-loop-entry
invariant-loop-entry l = are_allowed (question_of l.asked).terms (take l.entry-index l.prices) ≡ true
