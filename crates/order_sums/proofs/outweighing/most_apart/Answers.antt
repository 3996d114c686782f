use Rattle.std.proofs.Common.{sym, ◌∙◌, arith}
use Rattle.order_sums.specs.PairTables.{lists_of}
use Rattle.order_sums.proofs.TableLemmas.{rows_lie, cell_known}
use Rattle.order_sums.proofs.TableReads.{most_all, most_from, most_done}
use Rattle.order_sums.proofs.outweighing.most_apart.Goals as goal

pub later_cells-requires-clause-row : goal.later_cells-requires-clause-row
later_cells-requires-clause-row c = omega (arith, rows_lie c.args.table.now, c.requires.count)

pub later_cells-requires-clause-cell : goal.later_cells-requires-clause-cell
later_cells-requires-clause-cell c = cell_known c.args.lines.now (lists_of c.args.table.now) c.loop-i.i c.loop-i.i c.requires c.loop-i-test.true c.loop-i-test.true

pub loop-i-init : goal.loop-i-init
loop-i-init c = λ w is. most_all w c.args.lines.now

pub loop-i-preserved : goal.loop-i-preserved
loop-i-preserved c = λ w is.
    c.loop-i.invariant w is
    ∙ most_from w c.args.lines.now (lists_of c.args.table.now) c.later_cells.result.now c.loop-i.i c.loop-i.most c.most_in.result c.greater-most.result is c.loop-i-test.true
    c.later_cells.ensures c.most_in.ensures c.greater-most.ensures

pub returns : goal.returns
returns c = λ w is. sym (c.loop-i.invariant w is ∙ most_done w c.args.lines.now c.loop-i.i c.loop-i.most c.loop-i-test.false)
