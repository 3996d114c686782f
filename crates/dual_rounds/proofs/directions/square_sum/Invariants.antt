use Rattle.std.proofs.Common.{◌≡◌, ◌*◌, ◌≤◌, take}
use Rattle.dual_ascent.specs.DualSteps.{square_sum}
use Rattle.dual_rounds.proofs.directions.square_sum.Given as goal

abbrev pub invariant-loop-direction : goal.invariant-loop-direction
invariant-loop-direction l = (l.total ≡ square_sum (take l.direction-index l.directions)) × (l.total ≤ 262144 * l.direction-index)
