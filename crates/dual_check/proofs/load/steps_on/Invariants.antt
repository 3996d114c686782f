use Rattle.std.proofs.Common.{◌≡◌, min, take}
use Rattle.std.specs.List.{sum_by}
use Rattle.dual_bound.specs.Accepting.{steps_on}
use Rattle.dual_check.proofs.load.steps_on.Given as goal

abbrev pub invariant-loop-s : goal.invariant-loop-s
invariant-loop-s l = l.total ≡ min (sum_by (steps_on l.problem.segs) (take l.s-index l.part)) 1000000000000
