use Rattle.std.proofs.Common.{take}
use Rattle.dual_bound.specs.Settled.{settled_on}
use Rattle.dual_shares.specs.SettledSets.{TellAhead}
use Rattle.dual_check.specs.Settling.{pairs_of}
use Rattle.dual_check.proofs.solver.put_ahead.Given as goal

abbrev pub invariant-loop-pair : goal.invariant-loop-pair
invariant-loop-pair l = TellAhead (settled_on (pairs_of (take l.pair-index l.settled)) l.s) l.lines l.ahead
