use Rattle.std.proofs.Common.{◌≡◌, ◌++◌, map, take, drop, All}
use Rattle.dual_ascent.specs.Averages.{with_order}
use Rattle.dual_rounds.specs.Ranges.{IsAverage}
use Rattle.dual_rounds.proofs.averages.average_on.Given as goal

abbrev pub invariant-loop-k : goal.invariant-loop-k
invariant-loop-k l = (l.averages ≡ map (with_order l.round l.order) (take l.k l.initial.averages) ++ drop l.k l.initial.averages) × All IsAverage l.averages
