use Rattle.std.proofs.Common.{drop}
use Rattle.std.specs.List.{AllByRecursion}
use Rattle.octi_grid.specs.Ways.{doubled, points_from, IsWithin}
use Rattle.octi_grid.specs.Runs.{steps_of}
use Rattle.octi_grid.specs.Taking.{half_steps, trail}
use Rattle.octi_grid.proofs.TakingLemmas.{TakesSoFar}
use Rattle.octi_grid.proofs.taken.take_between.Given as goal

-- the points of the runs so far were new and are taken, and those that are left stay within the range
abbrev pub invariant-loop-i : goal.invariant-loop-i
invariant-loop-i l = record {
  within : AllByRecursion IsWithin (points_from l.at (steps_of (drop l.i l.runs)));
  taken : TakesSoFar l.initial.points l.points (trail (doubled l.fn.start) (half_steps l.runs)) (trail (doubled l.at) (half_steps (drop l.i l.runs)));
}
