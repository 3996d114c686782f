use Rattle.poster_layout.proofs.Choosing.{NoneBefore}
use Rattle.poster_layout.proofs.fitting.first_suiting.Given as goal

-- none of the pitches so far suits
abbrev pub invariant-loop-i : goal.invariant-loop-i
invariant-loop-i l = NoneBefore l.plan l.i
