use Rattle.std.proofs.Common.{◌≡◌}
use Rattle.subset_program.specs.PlainRows.{plain_rows}
use Rattle.subset_program.specs.Tables.{best_head}
use Rattle.subset_program.proofs.steps.choose.Given as goal

abbrev pub invariant-loop-i : goal.invariant-loop-i
invariant-loop-i l = l.best ≡ best_head (plain_rows l.rows) l.last l.heads l.i
