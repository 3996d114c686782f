use Rattle.dual_orders.proofs.OwnTables.{lines_here, few_lines, width_more}
use Rattle.dual_orders.proofs.solver.widest.Goals as goal

pub loop-lines-preserved : goal.loop-lines-preserved
loop-lines-preserved c =
    let segs = c.args.problem.now.segs in
    let i = c.loop-lines.lines-index in
    let is = lines_here segs c.segs-lines-items.result.now i c.lines-item.result c.as_slice.result.now
    c.segs-lines-items.ensures.lists c.loop-lines-test.true c.lines-item.is c.as_slice.ensures in
    width_more segs i c.loop-lines.most c.max-most.result c.as_slice.result.now is c.max-most.ensures
    c.loop-lines.invariant

pub returns-clause-most : goal.returns-clause-most
returns-clause-most c = λ narrow. c.loop-lines.invariant.1 16 (λ k. few_lines c.args.problem.now.segs k narrow)
