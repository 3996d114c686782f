use Rattle.subset_program.specs.Tables.{HasTails}
use Rattle.subset_program.specs.PlainRows.{plain_rows}
use Rattle.subset_program.proofs.table.fill.Given as goal

abbrev pub invariant-loop-set : goal.invariant-loop-set
invariant-loop-set l = HasTails (plain_rows l.rows) l.set l.tails
