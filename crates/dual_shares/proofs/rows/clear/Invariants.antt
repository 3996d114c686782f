use Rattle.std.proofs.Common.{◌≡◌, ℕ, ◌<◌}
use Rattle.std.specs.Prelude.{pos}
use Rattle.dual_shares.specs.RowSteps.{row_entry}
use Rattle.dual_shares.proofs.rows.clear.Given as goal

abbrev pub invariant-loop-k : goal.invariant-loop-k
invariant-loop-k l = (j : ℕ) → j < l.k → row_entry l.row j ≡ pos 0
