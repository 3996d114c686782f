use Rattle.order_sums.proofs.TableLemmas.{not_met}
use Rattle.order_sums.proofs.table.place_of.Goals as goal

pub returns-in-Err : goal.returns-in-Err
returns-in-Err c = not_met c.args.lines.now c.args.line c.in-Err.field-0 c.requires c.in-Err.ensures.position
