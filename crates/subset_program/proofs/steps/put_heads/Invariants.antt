use Rattle.subset_program.specs.PlainRows.{plain_rows}
use Rattle.subset_program.specs.Tables.{HasHeads}
use Rattle.subset_program.proofs.steps.put_heads.Given as goal

abbrev pub invariant-loop-k : goal.invariant-loop-k
invariant-loop-k l = HasHeads (plain_rows l.rows) l.set l.k l.many l.heads
