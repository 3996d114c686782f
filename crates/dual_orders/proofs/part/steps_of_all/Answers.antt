use Rattle.std.proofs.Common.{◌≤◌, List, length, sym, ◌∙◌, ap, subst, arith}
use Rattle.std.specs.Prelude.{sum_by}
use Rattle.std.proofs.lemmas.List.{take_all}
use Rattle.map_base.specs.declared.ids.LineId.{LineId}
use Rattle.dual_orders.proofs.OwnTables.{lines_here, few_lines, steps_of, steps_by_lines}
use Rattle.dual_orders.proofs.part.steps_of_all.Goals as goal

pub steps_of-total-requires : goal.steps_of-total-requires
steps_of-total-requires c =
    let segs = c.args.problem.now.segs in
    let i = c.loop-lines.lines-index in
    let is = lines_here segs c.segs-lines-items.result.now i c.lines-item.result c.as_slice.result.now
    c.segs-lines-items.ensures.lists c.loop-lines-test.true c.lines-item.is c.as_slice.ensures in
    subst (λ (l : List LineId). length l ≤ 16) (sym is) (few_lines segs i c.requires)

pub returns : goal.returns
returns c =
    let segs = c.args.problem.now.segs in
    let same = ap length c.segs-lines-items.ensures.lists in
    c.loop-lines.invariant.0
    ∙ (ap (sum_by steps_of) (take_all c.loop-lines.lines-index segs (omega (arith, same, c.loop-lines-test.false)))
    ∙ sym (steps_by_lines segs))
