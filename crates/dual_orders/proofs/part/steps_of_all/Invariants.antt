use Rattle.std.proofs.Common.{◌≡◌, ◌*◌, ◌≤◌, take, sum_by}
use Rattle.dual_orders.proofs.OwnTables.{steps_of}
use Rattle.dual_orders.proofs.part.steps_of_all.Given as goal

abbrev pub invariant-loop-lines : goal.invariant-loop-lines
invariant-loop-lines l = (l.total ≡ sum_by steps_of (take l.lines-index l.problem.segs)) × (l.total ≤ 16777216 * l.lines-index)
