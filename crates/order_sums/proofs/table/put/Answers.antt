use Rattle.std.proofs.Common.{refl}
use Rattle.std.specs.Vec.{with_item}
use Rattle.order_sums.proofs.TableLemmas.{row_written}
use Rattle.order_sums.proofs.table.put.Goals as goal

pub returns : goal.returns
returns c =
    row_written c.args.table.now.items c.args.p c.args.q c.index_mut-row.result.now (with_item c.index_mut-row.result.now c.args.q c.args.sums) c.args.sums c.requires.row
    c.index_mut-row.ensures.value refl
