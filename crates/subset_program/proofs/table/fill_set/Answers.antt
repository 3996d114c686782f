use Rattle.subset_program.specs.PlainRows.{plain_rows}
use Rattle.subset_program.proofs.Filling.{row_more, greater_kept}
use Rattle.subset_program.proofs.table.fill_set.Goals as goal

pub loop-last-preserved : goal.loop-last-preserved
loop-last-preserved c = (
  greater_kept (plain_rows c.args.rows.now) c.args.set c.loop-last.last c.loop-last.tails c.fill_at.new.tails c.loop-last-test.true c.loop-last.invariant.0 c.fill_at.ensures,
  row_more (plain_rows c.args.rows.now) c.args.set c.loop-last.last c.loop-last.tails c.fill_at.new.tails c.loop-last-test.true c.loop-last.invariant.1 c.fill_at.ensures,
)
