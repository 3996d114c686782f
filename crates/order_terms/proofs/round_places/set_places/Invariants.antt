use Rattle.std.proofs.Common.{drop}
use Rattle.order_terms.proofs.Rounds.{TellFrom}
use Rattle.order_terms.proofs.round_places.set_places.Given as goal

abbrev pub invariant-loop-place : goal.invariant-loop-place
invariant-loop-place l = TellFrom l.place (drop l.place l.round) l.table
