use Rattle.std.proofs.Common.{◌<◌, List, length, ap, subst, arith}
use Rattle.map_base.specs.declared.ids.LineId.{LineId}
use Rattle.dual_orders.proofs.OwnTables.{lines_here, wide_at, narrow_all}
use Rattle.dual_orders.proofs.part.is_narrow.Goals as goal

pub returns-then-as_slice-gt-MOST_LINES : goal.returns-then-as_slice-gt-MOST_LINES
returns-then-as_slice-gt-MOST_LINES c =
    let segs = c.args.problem.now.segs in
    let i = c.loop-lines.lines-index in
    let same = ap length c.segs-lines-items.ensures.lists in
    let below = c.loop-lines-test.true in
    let is = lines_here segs c.segs-lines-items.result.now i c.lines-item.result c.as_slice.result.now
    c.segs-lines-items.ensures.lists below c.lines-item.is c.as_slice.ensures in
    wide_at segs i (omega (arith, same, below))
    (subst (λ (l : List LineId). 16 < length l) is c.if-as_slice-gt-MOST_LINES.true)

pub returns : goal.returns
returns c =
    let same = ap length c.segs-lines-items.ensures.lists in
    narrow_all c.args.problem.now.segs c.loop-lines.lines-index (omega (arith, same, c.loop-lines-test.false))
    c.loop-lines.invariant
