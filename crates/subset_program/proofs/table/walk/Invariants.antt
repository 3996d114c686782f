use Rattle.subset_program.specs.Tables.{IsWalked}
use Rattle.subset_program.specs.PlainRows.{plain_rows}
use Rattle.subset_program.proofs.table.walk.Given as goal

abbrev pub invariant-loop-i : goal.invariant-loop-i
invariant-loop-i l = IsWalked (plain_rows l.rows) l.i l.order l.set l.last
