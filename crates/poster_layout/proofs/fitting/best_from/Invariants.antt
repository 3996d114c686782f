use Rattle.std.proofs.Common.{◌≡◌, ◌-◌}
use Rattle.poster_plan.specs.Pitches.{full_left}
use Rattle.poster_layout.specs.Fits.{best_of, IsLaid, IsPitch}
use Rattle.poster_layout.proofs.fitting.best_from.Given as goal

-- the best of those so far, and of those that are left, is the best of all
abbrev pub invariant-loop-alloc : goal.invariant-loop-alloc
invariant-loop-alloc l = record {
  laid : IsLaid l.plan l.best;
  pitch : IsPitch l.pitch;
  left : l.left ≡ full_left l.pitch l.plan;
  whole : best_of l.plan l.best.pitch l.left l.pitch ≡ best_of l.plan l.fn.first.pitch l.fn.first.full_left l.fn.first.pitch;
}

abbrev pub decreases-loop-alloc : goal.decreases-loop-alloc
decreases-loop-alloc l = 200 - l.pitch
