use Rattle.std.proofs.Common.{◌+◌}
use Rattle.subset_program.specs.PlainRows.{plain_rows}
use Rattle.subset_program.specs.Tables.{HasTails}
use Rattle.subset_program.proofs.Filling.{HasRow}
use Rattle.subset_program.proofs.table.fill_set.Given as goal

-- all greater sets are done, and of this one the lines below
abbrev pub invariant-loop-last : goal.invariant-loop-last
invariant-loop-last l = HasTails (plain_rows l.rows) (l.set + 1) l.tails × HasRow (plain_rows l.rows) l.set l.last l.tails
