use Rattle.std.proofs.Common.{All}
use Rattle.track_net.specs.Searching.{IsOneOf}
use Rattle.track_net.proofs.nearest.nearest_on_each_side.Given as goal

abbrev pub invariant-loop-k : goal.invariant-loop-k
invariant-loop-k l = All (IsOneOf l.candidates l.i) l.nearest.numbers
