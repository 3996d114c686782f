use Rattle.std.proofs.Common.{◌≡◌, true, replicate}
use Rattle.octi_grid.specs.Ways.{after, IsDoubled}
use Rattle.octi_grid.specs.Taking.{trail, Takes}
use Rattle.octi_grid.proofs.taken.take_run.Given as goal

-- the points of the steps so far were new, and are taken
abbrev pub invariant-loop : goal.invariant-loop
invariant-loop l = record {
  at : l.at ≡ after l.fn.start (replicate l.counter l.dir);
  within : IsDoubled l.at;
  taken : Takes l.initial.points l.points (trail l.fn.start (replicate l.counter l.dir)) true;
}
