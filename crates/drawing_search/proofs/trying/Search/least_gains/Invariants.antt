use Rattle.std.proofs.Common.{◌≡◌, ◌+◌, ◌≤◌, drop, min}
use Rattle.drawing_search.specs.Bounds.{gains_at_least}
use Rattle.drawing_search.specs.Changes.{point_after}
use Rattle.drawing_search.proofs.trying.Search.least_gains.Given as goal

-- what the runs so far add at least, and those that are left
abbrev pub invariant-loop-i : goal.invariant-loop-i
invariant-loop-i l = record {
  gains : min 18446744073709551615 (l.total + gains_at_least (point_after l.self.sketch l.vector l.moved) (drop l.i l.runs) (drop l.i l.least))
      ≡ min 18446744073709551615 (gains_at_least (point_after l.self.sketch l.vector l.moved) l.runs l.least);
  few : l.total ≤ 18446744073709551615;
}
