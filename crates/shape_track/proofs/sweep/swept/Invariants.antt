use Rattle.shape_track.proofs.Sweeping.{IsSweptFrom}
use Rattle.shape_track.proofs.sweep.swept.Given as goal

abbrev pub invariant-loop-place : goal.invariant-loop-place
invariant-loop-place l = IsSweptFrom l.samples l.station l.later l.initial.costs l.costs l.row l.next l.place
