use Rattle.std.proofs.Common.{◌≡◌, ◌+◌, ◌*◌, ◌≤◌, drop}
use Rattle.drawing_search.proofs.Common.{scale_of, steps_gain}
use Rattle.drawing_search.proofs.gains.Field.steps_gain.Given as goal

-- what the steps so far add, and those that are left
abbrev pub invariant-loop-i : goal.invariant-loop-i
invariant-loop-i l =
    (l.total + steps_gain (scale_of l.self.by) l.self.graph.now l.self.first.now l.sketch (drop l.i l.steps) ≡ steps_gain (scale_of l.self.by) l.self.graph.now l.self.first.now l.sketch l.steps)
    × (l.total ≤ 1099511627776 * l.i)
