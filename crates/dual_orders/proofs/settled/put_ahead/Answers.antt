use Rattle.std.proofs.Common.{◌≤◌, List, length, sym, subst}
use Rattle.map_base.specs.declared.ids.LineId.{LineId}
use Rattle.dual_orders.proofs.OwnTables.{few_lines, reach_narrow}
use Rattle.dual_orders.proofs.settled.put_ahead.Goals as goal

pub put_pairs-requires-clause-few : goal.put_pairs-requires-clause-few
put_pairs-requires-clause-few c =
    subst (λ (l : List LineId). length l ≤ 16) (sym c.lines.ensures)
    (few_lines c.args.part.now.problem.now.segs c.args.s
    (reach_narrow c.args.part.now.problem.now c.requires.part.reach))
